-- The code's six faces are those of the rules.
use Rattle.std.proofs.Common.{◌≡◌, ℕ, zero, suc, ◌+◌, ◌<◌, List, [], ◌∷◌, map, length, get_or, take, ℤ, sym, refl, ap, ◌∙◌, arith}
use lib.ListN.{length-map}
use Rattle.cell.specs.Face.{FaceSegment, face_segments}
use Rattle.clipping.specs.Faces.{Placed, faces, on_face, placed, segments_on_all}
use Rattle.clipping.specs.Masks.{entered, blank}
use Rattle.clipping.proofs.Entering.{face_more}
use Rattle.shell.specs.Table.{placed_of}
use Rattle.shell.specs.declared.face.VoxelFace.{VoxelFace}

-- a list of the six faces in order, as `FACES` is
pub record IsTable (fs : List VoxelFace) : Type 0 where
  pub placed : map placed_of fs ≡ faces

pub at_map : {X Y : Type 0} (f : X → Y) (xs : List X) (k : ℕ) (z : Y) (d : X) → k < length xs → get_or (map f xs) k z ≡ f (get_or xs k d)
at_map f [] k z d h = absurd (omega arith)
at_map f (x ∷ xs) zero z d h = refl
at_map f (x ∷ xs) (suc k) z d h = at_map f xs k z d (omega arith)

module _ {fs : List VoxelFace} (table : IsTable fs) (i : ℕ) (d : VoxelFace) (h : i < 6) where
  pub face_read : (z : Placed) → placed_of (get_or fs i d) ≡ get_or faces i z
  face_read z =
      let six : length fs ≡ 6 = sym (length-map fs placed_of) ∙ ap length table.placed in
      sym (at_map placed_of fs i z d (omega arith)) ∙ ap (λ ps. get_or ps i z) table.placed

  -- the segments of one face more
  pub face_entered : (g : ℕ → ℤ) (xs ys : List ℕ) (ss : List FaceSegment)
      → xs ≡ entered blank (segments_on_all g (take i faces)) → ys ≡ entered xs (placed (placed_of (get_or fs i d)) ss) → ss ≡ on_face face_segments g (placed_of (get_or fs i d))
      → ys ≡ entered blank (segments_on_all g (take (i + 1) faces))
  face_entered g xs ys ss so_far now cut =
      let f = placed_of (get_or fs i d) in
      face_more g xs ys i f h (face_read f) so_far (now ∙ ap (λ ts. entered xs (placed f ts)) cut)
