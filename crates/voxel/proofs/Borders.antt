-- The cut at a place of the face at a place.
use Rattle.std.proofs.Common.{◌≡◌, ℕ, zero, suc, List, [], ◌∷◌, map, ℤ, Some, Option, sym, refl, ap, ◌∙◌, arith}
use Rattle.std.specs.Option.{option_map}
use Rattle.std.specs.List.{slice_get}
use Rattle.block.specs.declared.lattice.Point.{Point}
use Rattle.cell.specs.Face.{FaceSegment, face_segments}
use Rattle.cell.specs.declared.vertex.Axis.{Axis}
use Rattle.cell.specs.declared.vertex.Axis.TheVariants.{X, Y, Z}
use Rattle.clipping.specs.Faces.{Placed, on_face, across_x, across_y, across_z}
use Rattle.kind.specs.Shapes.{cut_at}
use Rattle.shell.specs.Table.{drawn, drawn_faces, placed_of}
use Rattle.shell.specs.declared.face.VoxelFace.{VoxelFace}
use Rattle.voxel.specs.Local.{borders_of, face_joint, face_cuts}

nth_map : {X Y : Type 0} (f : X → Y) (xs : List X) (n : ℕ) → slice_get (map f xs) n ≡ option_map f (slice_get xs n)
nth_map f [] n = refl
nth_map f (x ∷ xs) zero = refl
nth_map f (x ∷ xs) (suc n) = nth_map f xs n

module _ (c : Point) (g : ℕ → ℤ) (f : VoxelFace) where
  at_face : (k n : ℕ) → Some (drawn f) ≡ slice_get drawn_faces k → cut_at (borders_of c g) k n ≡ slice_get (face_cuts c g (placed_of f)) n
  at_face zero n h = let e : drawn f ≡ (X, across_x 0) = cc in ap (λ (p : Axis × Placed). slice_get (face_cuts c g p.1) n) (sym e)
  at_face (suc zero) n h = let e : drawn f ≡ (X, across_x 1) = cc in ap (λ (p : Axis × Placed). slice_get (face_cuts c g p.1) n) (sym e)
  at_face (suc (suc zero)) n h = let e : drawn f ≡ (Y, across_y 0) = cc in ap (λ (p : Axis × Placed). slice_get (face_cuts c g p.1) n) (sym e)
  at_face (suc (suc (suc zero))) n h = let e : drawn f ≡ (Y, across_y 1) = cc in ap (λ (p : Axis × Placed). slice_get (face_cuts c g p.1) n) (sym e)
  at_face (suc (suc (suc (suc zero)))) n h = let e : drawn f ≡ (Z, across_z 0) = cc in ap (λ (p : Axis × Placed). slice_get (face_cuts c g p.1) n) (sym e)
  at_face (suc (suc (suc (suc (suc zero))))) n h = let e : drawn f ≡ (Z, across_z 1) = cc in ap (λ (p : Axis × Placed). slice_get (face_cuts c g p.1) n) (sym e)
  at_face (suc (suc (suc (suc (suc (suc k)))))) n h = absurd (let z : ◌≡◌ {A = ℕ} 0 1 = cc in omega arith)

  -- what is answered for the segment at a place
  pub cut_is : (k n : ℕ) (ss : List FaceSegment) (o : Option FaceSegment) → Some (drawn f) ≡ slice_get drawn_faces k → ss ≡ on_face face_segments g (placed_of f) → o ≡ slice_get ss n
      → option_map (face_joint c (placed_of f)) o ≡ cut_at (borders_of c g) k n
  cut_is k n ss o h e q =
      ap (option_map (face_joint c (placed_of f))) (q ∙ ap (λ ts. slice_get ts n) e) ∙ sym (nth_map (face_joint c (placed_of f)) (on_face face_segments g (placed_of f)) n) ∙ sym (at_face k n h)
