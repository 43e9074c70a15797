-- Worked rows of the rules: what is asked, and what the rules answer.
use Rattle.std.specs.Prelude.{◌≡◌, ℕ, List, [], ◌∷◌, map, ℤ, pos, negsuc, Some, Option, slice_index_or}
use Rattle.cell.specs.Crossing.{offset, crossing_of}
use Rattle.cell.specs.Face.{FaceSegment, Δ, face_rule, centre_of_face}
use Rattle.cell.specs.Level.{height}
use Rattle.cell.specs.declared.crossing.Offset.{Offset}
use Rattle.cell.specs.declared.face.Centre.{Centre}
use Rattle.cell.specs.declared.face.FacePoint.TheVariants.{P0, P1, P2, P3}
use Rattle.clipping.specs.Clip.{Triangle, triangles}
use Rattle.clipping.specs.Faces.{voxel_segments}

-- What is asked of the rules; a face is given by the heights at 00, 10, 01, 11.
pub data Asked : Type 0 where
  -- its segments
  face : ℤ → ℤ → ℤ → ℤ → Asked
  -- its Δ, and its segments
  twist : ℤ → ℤ → ℤ → ℤ → Asked
  -- its Δ, and where its centre lies
  middle : ℤ → ℤ → ℤ → ℤ → Asked
  -- the crossing of an edge at the level p/q, with these samples at its lower and upper end
  edge : ℤ → ℕ → ℤ → ℤ → Asked
  -- the triangles of a voxel at the level p/q, with these samples at its corners in order
  voxel : ℤ → ℕ → List ℤ → Asked

pub data Answer : Type 0 where
  segments : Option (List FaceSegment) → Answer
  twisted : ℤ → Option (List FaceSegment) → Answer
  centred : ℤ → Option Centre → Answer
  crossing : Option Offset → Answer
  clipped : List Triangle → Answer

-- what the rules answer
abbrev pub rules : Asked → Answer
rules (face g00 g10 g01 g11) = segments (face_rule g00 g10 g01 g11)
rules (twist g00 g10 g01 g11) = twisted (Δ g00 g10 g01 g11) (face_rule g00 g10 g01 g11)
rules (middle g00 g10 g01 g11) = centred (Δ g00 g10 g01 g11) (centre_of_face g00 g10 g01 g11)
rules (edge p q low high) = crossing (crossing_of (height p q low) (height p q high))
rules (voxel p q samples) = clipped (triangles (voxel_segments (λ k. slice_index_or (map (height p q) samples) k (pos 0))))

abbrev minus1 : ℤ
minus1 = negsuc 0

abbrev minus3 : ℤ
minus3 = negsuc 2

abbrev minus6 : ℤ
minus6 = negsuc 5

abbrev minus8 : ℤ
minus8 = negsuc 7

-- samples that are above the level 1/2 on the face z low alone
abbrev z_low : List ℤ
z_low = pos 1 ∷ pos 1 ∷ pos 1 ∷ pos 1 ∷ pos 0 ∷ pos 0 ∷ pos 0 ∷ pos 0 ∷ []

-- 1 where x + y + z is even, else 0
abbrev checkerboard : List ℤ
checkerboard = pos 1 ∷ pos 0 ∷ pos 0 ∷ pos 1 ∷ pos 0 ∷ pos 1 ∷ pos 1 ∷ pos 0 ∷ []

-- each crossing is cut off first; the last six close what is left between the centres
abbrev eighteen : List Triangle
eighteen =
    (0, 14, 16) ∷ (1, 15, 16) ∷ (2, 14, 17) ∷ (3, 15, 17) ∷
    (4, 12, 16) ∷ (5, 13, 16) ∷ (6, 12, 17) ∷ (7, 13, 17) ∷
    (8, 12, 14) ∷ (9, 13, 14) ∷ (10, 12, 15) ∷ (11, 13, 15) ∷
    (12, 14, 15) ∷ (12, 16, 17) ∷ (13, 14, 15) ∷ (13, 16, 17) ∷ (14, 16, 17) ∷ (15, 16, 17) ∷ []

abbrev pub rows : List (Asked × Answer)
rows =
    (face (pos 1) (pos 1) (pos 1) (pos 1), segments (Some []))
    ∷ (face (pos 1) (pos 1) (pos 1) minus1, segments (Some ((P1, P3) ∷ [])))
    ∷ (face (pos 1) (pos 1) minus1 (pos 1), segments (Some ((P0, P3) ∷ [])))
    ∷ (face (pos 1) minus1 (pos 1) minus1, segments (Some ((P2, P3) ∷ [])))
    ∷ (twist minus3 (pos 1) (pos 1) minus3, twisted (pos 8) (Some ((P0, P3) ∷ (P1, P2) ∷ [])))
    ∷ (twist minus1 (pos 3) (pos 3) minus1, twisted minus8 (Some ((P0, P2) ∷ (P1, P3) ∷ [])))
    ∷ (middle minus1 (pos 2) (pos 3) minus6, centred (pos 0) (Some (record { first = offset 4 12; second = offset 3 12 })))
    ∷ (edge (pos 25) 2 (pos 10) (pos 20), crossing (Some (offset 5 20)))
    ∷ (voxel (pos 1) 2 z_low, clipped ((8, 9, 10) ∷ (9, 10, 11) ∷ []))
    ∷ (voxel (pos 1) 2 checkerboard, clipped eighteen)
    ∷ []

-- the rules answer what each row says
abbrev pub RowsStand : Type 0
RowsStand = map (λ r. rules r.0) rows ≡ map (λ r. r.1) rows
