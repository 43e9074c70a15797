-- Voxels keep the laws of cells, and are small.
use Rattle.std.proofs.Common.{◌↔◌, [], ◌∷◌, count_by, sym, ap, ◌∙◌, arith}
use Rattle.std.proofs.lemmas.List.{length-map}
use Rattle.block.specs.Block.{Block}
use Rattle.block.specs.declared.lattice.Point.{Point}
use Rattle.kind.specs.Meaning.{Joint, Readable, Laws, IsJoint, Odd, CutOfCell, on}
use Rattle.cell.specs.declared.level.Level.{Level}
use Rattle.clipping.specs.Clip.{triangles}
use Rattle.clipping.specs.Laws.{Filled}
use Rattle.kind.proofs.Members.{has_here}
use Rattle.clipping.proofs.Shells.{shells}
use Rattle.voxel_theory.specs.Voxel.{voxel, heights, segments, pieces, piece_of, vertex_at, Small}
use Rattle.voxel_theory.proofs.Naming as naming
use Rattle.voxel_theory.proofs.Parity as parity
use Rattle.voxel_theory.proofs.Reading.{off_level}
use Rattle.voxel_theory.proofs.Sides as sides

filled : (b : Block) (l : Level) (c : Point) → Readable voxel b l c → Filled (segments b l c) (triangles (segments b l c))
filled b l c r = (shells (heights b l c) (off_level b l c r.reads)).0

-- a joint of a voxel is a pair
parity_of : (b : Block) (l : Level) (c : Point) (j : Joint) → Filled (segments b l c) (triangles (segments b l c)) → IsJoint voxel j → Odd (count_by (on j) (pieces b l c)) ↔ CutOfCell voxel b l c j
parity_of b l c [] f h = absurd (let z = h.0 in omega arith)
parity_of b l c (u ∷ []) f h = absurd (let z = h.0 in omega arith)
parity_of b l c (u ∷ v ∷ []) f h = parity.parity_pair b l c f u v (λ e. h.1.0 (has_here v [] u (sym e)))
parity_of b l c (u ∷ v ∷ w ∷ j) f h = absurd (let z = h.0 in omega arith)

pub voxel_laws : Laws voxel
voxel_laws = record {
  parity = λ b l c j r h. parity_of b l c j (filled b l c r) h;
  one_side = λ b l c d s t j _ _ _ _ h k. sides.one_side b l s t j h k;
  two_cells = λ n c d e s _ _ _ hc hd he. sides.two_voxels c d e s hc hd he;
  apart = λ b l c _. naming.apart b l c;
  named = λ b l c p r. naming.named b l c (filled b l c r) p;
  offsets = λ b l c d v w _ _ hv hw e. naming.vertex_is b l c v hv ∙ ap (vertex_at b l) e ∙ sym (naming.vertex_is b l d w hw);
  sides_once = sides.sides_once;
}

pub voxel_small : Small
voxel_small = record {
  vertices = naming.at_most_eighteen;
  pieces = λ b l c r. omega (arith, length-map (triangles (segments b l c)) (piece_of c), (shells (heights b l c) (off_level b l c r.reads)).1);
}
