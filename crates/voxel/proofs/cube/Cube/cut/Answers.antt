use Rattle.std.proofs.Common.{[], ◌∷◌, Some, ap, ◌∙◌}
use Rattle.cell.specs.Cuts.{segments_in}
use Rattle.shell.specs.Corners.{by_corner}
use Rattle.voxel_theory.specs.Voxel.{place_of}
use Rattle.voxel.proofs.Borders.{cut_is}
use Rattle.voxel.proofs.cube.Cube.cut.Goals as goal

pub returns : goal.returns
returns c =
    let s = c.args.self.now in
    let first = c.place.ensures.answer ∙ ap (place_of s.at) c.point.ensures.answer in
    let second = c.place-2.ensures.answer ∙ ap (place_of s.at) c.point-2.ensures.answer in
    record {
      answer =
          (λ i. Some (first i ∷ second i ∷ []))
          ∙ cut_is s.at (by_corner s.corners.heights) c.in_ok-face.face c.args.side c.args.n (segments_in c.cut_along.result) (Some (c.in_ok-p.p, c.in_ok-p.q))
          c.in_ok-face.ensures.answer c.cut_along.ensures.answer c.in_ok-p.ensures.answer;
    }
