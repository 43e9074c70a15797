-- The segments of a voxel's six faces, by the voxel's local vertices.
use Rattle.std.specs.Prelude.{◌≡◌, ℕ, ◌+◌, ◌*◌, ◌<◌, Bool, false, List, [], ◌∷◌, ◌++◌, map, ℤ}
use Rattle.cell.specs.Level.{sign, on_level}
use Rattle.cell.specs.Crossing.{opposite}
use Rattle.cell.specs.Face.{FaceSegment, face_segments, has_centre}
use Rattle.cell.specs.declared.face.FacePoint.{FacePoint}
use Rattle.cell.specs.declared.face.FacePoint.TheVariants.{P0, P1, P2, P3, C}

-- the numbers of a voxel's corners and local vertices, by the steps from its lowest corner
abbrev pub corner : ℕ → ℕ → ℕ → ℕ
corner dx dy dz = dx + 2 * dy + 4 * dz

abbrev pub x_edge : ℕ → ℕ → ℕ
x_edge dy dz = dy + 2 * dz

abbrev pub y_edge : ℕ → ℕ → ℕ
y_edge dx dz = 4 + dx + 2 * dz

abbrev pub z_edge : ℕ → ℕ → ℕ
z_edge dx dy = 8 + dx + 2 * dy

-- how many local vertices there are: twelve crossings and six centres
abbrev pub local_vertices : ℕ
local_vertices = 18

abbrev pub local_order : List ℕ
local_order = 0 ∷ 1 ∷ 2 ∷ 3 ∷ 4 ∷ 5 ∷ 6 ∷ 7 ∷ 8 ∷ 9 ∷ 10 ∷ 11 ∷ 12 ∷ 13 ∷ 14 ∷ 15 ∷ 16 ∷ 17 ∷ []

-- how many corners there are
abbrev pub corner_count : ℕ
corner_count = 8

-- A face of a voxel: its corners and its points by their numbers in the voxel.
pub record Placed : Type 0 where
  pub c00 : ℕ
  pub c10 : ℕ
  pub c01 : ℕ
  pub c11 : ℕ
  pub point : FacePoint → ℕ

abbrev pub points : ℕ → ℕ → ℕ → ℕ → ℕ → FacePoint → ℕ
points p0 p1 p2 p3 c P0 = p0
points p0 p1 p2 p3 c P1 = p1
points p0 p1 p2 p3 c P2 = p2
points p0 p1 p2 p3 c P3 = p3
points p0 p1 p2 p3 c C = c

-- the face across an axis, low or high (0 or 1); its own axes are the other two, in the order x, y, z
abbrev pub across_x : ℕ → Placed
across_x s = record {
  c00 = corner s 0 0;
  c10 = corner s 1 0;
  c01 = corner s 0 1;
  c11 = corner s 1 1;
  point = points (z_edge s 0) (z_edge s 1) (y_edge s 0) (y_edge s 1) (12 + s);
}

abbrev pub across_y : ℕ → Placed
across_y s = record {
  c00 = corner 0 s 0;
  c10 = corner 1 s 0;
  c01 = corner 0 s 1;
  c11 = corner 1 s 1;
  point = points (z_edge 0 s) (z_edge 1 s) (x_edge s 0) (x_edge s 1) (14 + s);
}

abbrev pub across_z : ℕ → Placed
across_z s = record {
  c00 = corner 0 0 s;
  c10 = corner 1 0 s;
  c01 = corner 0 1 s;
  c11 = corner 1 1 s;
  point = points (y_edge 0 s) (y_edge 1 s) (x_edge 0 s) (x_edge 1 s) (16 + s);
}

-- in the order of their centres
abbrev pub faces : List Placed
faces = across_x 0 ∷ across_x 1 ∷ across_y 0 ∷ across_y 1 ∷ across_z 0 ∷ across_z 1 ∷ []

-- a segment, by its two local vertices
abbrev pub Segment : Type 0
Segment = ℕ × ℕ

-- a face's segments by local vertices
abbrev pub placed : Placed → List FaceSegment → List Segment
placed f ss = map (λ s. (f.point s.0, f.point s.1)) ss

-- what is said of the heights at a face's corners, by the heights at the voxel's corners
abbrev pub on_face {ℓ} : {X : Type ℓ} → (ℤ → ℤ → ℤ → ℤ → X) → (ℕ → ℤ) → Placed → X
on_face says g f = says (g f.c00) (g f.c10) (g f.c01) (g f.c11)

-- the segments of one face
abbrev pub segments_on : (ℕ → ℤ) → Placed → List Segment
segments_on g f = placed f (on_face face_segments g f)

abbrev pub segments_on_all : (ℕ → ℤ) → List Placed → List Segment
segments_on_all g [] = []
segments_on_all g (f ∷ fs) = segments_on g f ++ segments_on_all g fs

-- the segments of a voxel, from the heights at its corners
abbrev pub voxel_segments : (ℕ → ℤ) → List Segment
voxel_segments g = segments_on_all g faces

-- a voxel is off the level when the level meets none of its corners
abbrev pub Off : (ℕ → ℤ) → Type 0
Off g = (k : ℕ) → k < corner_count → on_level (g k) ≡ false

-- whether the edge between two corners has a crossing
abbrev pub crossed : (ℕ → ℤ) → ℕ → ℕ → Bool
crossed g i j = opposite (sign (g i)) (sign (g j))

-- whether a face has its centre
abbrev pub centred : (ℕ → ℤ) → Placed → Bool
centred g f = on_face has_centre g f
