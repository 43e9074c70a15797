-- The code's faces of a voxel as the rules place them.
use Rattle.std.specs.Prelude.{◌≡◌, ℕ, ℤ, List, [], ◌∷◌}
use Rattle.cell.specs.declared.face.Face.{Face}
use Rattle.cell.specs.declared.vertex.Axis.{Axis}
use Rattle.cell.specs.declared.vertex.Axis.TheVariants.{X, Y, Z}
use Rattle.clipping.specs.Faces.{Placed, points, across_x, across_y, across_z}
use Rattle.shell.specs.declared.face.VoxelFace.{VoxelFace}

abbrev pub placed_of : VoxelFace → Placed
placed_of f = record { c00 = f.c00; c10 = f.c10; c01 = f.c01; c11 = f.c11; point = points f.p0 f.p1 f.p2 f.p3 f.centre }

-- a face with the axis across it
abbrev pub drawn : VoxelFace → Axis × Placed
drawn f = (f.axis, placed_of f)

abbrev pub drawn_faces : List (Axis × Placed)
drawn_faces = (X, across_x 0) ∷ (X, across_x 1) ∷ (Y, across_y 0) ∷ (Y, across_y 1) ∷ (Z, across_z 0) ∷ (Z, across_z 1) ∷ []

-- the heights at a face's corners
pub record FaceOn (g : ℕ → ℤ) (f : Placed) (r : Face) : Type 0 where
  pub g00 : r.g00.value ≡ g f.c00
  pub g10 : r.g10.value ≡ g f.c10
  pub g01 : r.g01.value ≡ g f.c01
  pub g11 : r.g11.value ≡ g f.c11
