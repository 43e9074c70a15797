use Rattle.std.proofs.Common.{List, sym, ◌∙◌, subst}
use Rattle.clipping.specs.Faces.{voxel_segments}
use Rattle.clipping.specs.Masks.{Means, Clippable}
use Rattle.clipping.proofs.Entering.{voxel_means, voxel_clippable}
use Rattle.clipping.proofs.Reading.{used_read}
use Rattle.clipping.proofs.Voxels.{voxels}
use Rattle.shell.specs.Corners.{by_corner}
use Rattle.shell.proofs.Heights.{closed, no_shell, off_from}
use Rattle.shell.proofs.corners.Corners.shell.Goals as goal

pub returns-then-is_on_one_side-clause-answer : goal.returns-then-is_on_one_side-clause-answer
returns-then-is_on_one_side-clause-answer c =
    let s = c.args.self.now in
    no_shell (by_corner s.heights) (off_from s.heights s.off) (c.is_on_one_side.ensures.answer c.if-is_on_one_side.true)

pub returns-then-is_on_one_side-clause-closed : goal.returns-then-is_on_one_side-clause-closed
returns-then-is_on_one_side-clause-closed c =
    let s = c.args.self.now in
    closed (by_corner s.heights) _ _ (off_from s.heights s.off) (returns-then-is_on_one_side-clause-answer c)

pub clip-triangle_count-requires : goal.clip-triangle_count-requires
clip-triangle_count-requires c =
    let s = c.args.self.now in
    subst Clippable (sym c.of-links.ensures) (voxel_clippable (by_corner s.heights) (off_from s.heights s.off))

pub returns-clause-answer : goal.returns-clause-answer
returns-clause-answer c =
    let s = c.args.self.now in
    let g = by_corner s.heights in
    let off = off_from s.heights s.off in
    let means = subst (λ (xs : List _). Means xs (voxel_segments g)) (sym c.of-links.ensures) (voxel_means g off) in
    λ i. (
      c.clip-triangle_count.ensures.done (voxel_segments g) means (voxels g off).0 i,
      (c.vertices-vertex_count.ensures.done ∙ used_read c.of-links.result.masks (voxel_segments g) means) i,
    )

pub returns-clause-closed : goal.returns-clause-closed
returns-clause-closed c =
    let s = c.args.self.now in
    closed (by_corner s.heights) _ _ (off_from s.heights s.off) (returns-clause-answer c)
