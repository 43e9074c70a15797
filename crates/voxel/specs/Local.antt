-- The local vertices of a voxel, from the heights at its corners.
use Rattle.std.specs.Prelude.{ℕ, suc, if◌then◌else◌, List, [], ◌∷◌, map, ℤ, ◌==◌, slice_index_or}
use Rattle.block.specs.declared.lattice.Point.{Point}
use Rattle.cell.specs.Crossing.{along_edge}
use Rattle.cell.specs.Face.{FaceSegment, face_segments, centre_offsets}
use Rattle.cell.specs.Vertex.{on_edge, in_face}
use Rattle.cell.specs.declared.vertex.Axis.{Axis}
use Rattle.cell.specs.declared.vertex.Axis.TheVariants.{X, Y, Z}
use Rattle.cell.specs.declared.vertex.Side.{Side}
use Rattle.cell.specs.declared.vertex.Vertex.{Vertex}
use Rattle.clipping.specs.Clip.{Triangle}
use Rattle.clipping.specs.Faces.{Placed, on_face, faces, across_z}
use Rattle.kind.specs.Meaning.{Joint}
use Rattle.voxel_theory.specs.Voxel.{corners, sides, place_of}
use Rattle.shell.specs.Table.{drawn_faces}

abbrev pub corner_at : Point → ℕ → Point
corner_at c k = slice_index_or (corners c) k c

-- the crossing of the edge between two corners, along an axis
abbrev pub edge_vertex : Point → (ℕ → ℤ) → Axis → ℕ → ℕ → Vertex
edge_vertex c g a low high = on_edge a (corner_at c low) (along_edge (g low) (g high))

-- the centre of the face with these corners 00, 10, 01, 11 and a normal axis
abbrev pub centre_vertex : Point → (ℕ → ℤ) → Axis → ℕ → ℕ → ℕ → ℕ → Vertex
centre_vertex c g a k00 k10 k01 k11 =
    in_face a (corner_at c k00) (centre_offsets (g k00) (g k10) (g k01) (g k11)).first (centre_offsets (g k00) (g k10) (g k01) (g k11)).second

-- that of the face at a place; past the last, that of the last
abbrev pub centre_at : Point → (ℕ → ℤ) → ℕ → Vertex
centre_at c g n =
    let f = slice_index_or drawn_faces n (Z, across_z 1) in
    centre_vertex c g f.0 f.1.c00 f.1.c10 f.1.c01 f.1.c11

abbrev pub all_local : Point → (ℕ → ℤ) → List Vertex
all_local c g =
    edge_vertex c g X 0 1 ∷ edge_vertex c g X 2 3 ∷ edge_vertex c g X 4 5 ∷ edge_vertex c g X 6 7 ∷
    edge_vertex c g Y 0 2 ∷ edge_vertex c g Y 1 3 ∷ edge_vertex c g Y 4 6 ∷ edge_vertex c g Y 5 7 ∷
    edge_vertex c g Z 0 4 ∷ edge_vertex c g Z 1 5 ∷ edge_vertex c g Z 2 6 ∷ edge_vertex c g Z 3 7 ∷
    centre_vertex c g X 0 2 4 6 ∷ centre_vertex c g X 1 3 5 7 ∷
    centre_vertex c g Y 0 1 4 5 ∷ centre_vertex c g Y 2 3 6 7 ∷
    centre_vertex c g Z 0 1 2 3 ∷ centre_vertex c g Z 4 5 6 7 ∷ []

abbrev pub local_vertex : Point → (ℕ → ℤ) → ℕ → Vertex
local_vertex c g v = slice_index_or (all_local c g) v (centre_vertex c g Z 4 5 6 7)

-- the number of a local vertex among others, counted from 1; one more than there are where it is not among them
abbrev pub rank : List ℕ → ℕ → ℕ
rank [] v = 1
rank (u ∷ us) v = if u == v then 1 else suc (rank us v)

abbrev pub numbered : List ℕ → Triangle → List ℕ
numbered vs t = rank vs t.0 ∷ rank vs t.1 ∷ rank vs t.2 ∷ []

-- a face with its cuts
abbrev pub face_joint : Point → Placed → FaceSegment → Joint
face_joint c f s = place_of c (f.point s.0) ∷ place_of c (f.point s.1) ∷ []

abbrev pub face_cuts : Point → (ℕ → ℤ) → Placed → List Joint
face_cuts c g f = map (face_joint c f) (on_face face_segments g f)

abbrev pub paired : List Side → List (List Joint) → List (Side × List Joint)
paired [] js = []
paired (s ∷ ss) [] = []
paired (s ∷ ss) (j ∷ js) = (s, j) ∷ paired ss js

abbrev pub borders_of : Point → (ℕ → ℤ) → List (Side × List Joint)
borders_of c g = paired (sides c) (map (face_cuts c g) faces)
