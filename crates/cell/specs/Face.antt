-- How the level cuts a unit face, by the heights at its corners 00, 10, 01, 11.
use Rattle.std.specs.Prelude.{ℕ, ◌+◌, Bool, true, false, if◌then◌else◌, ◌&&◌, ◌||◌, List, [], ◌∷◌, ℤ, ◌-ℤ◌, ◌*ℤ◌, Some, None, Option, unsigned_abs}
use Rattle.cell.specs.Level.{Sign, minus, none, plus, sign, sign_is_none, on_level}
use Rattle.cell.specs.Crossing.{opposite, Offset, offset, crossing_of}
use Rattle.cell.specs.declared.face.Centre.{Centre}
pub use Rattle.cell.specs.declared.face.FacePoint.{FacePoint}
pub use Rattle.cell.specs.declared.face.FacePoint.TheVariants.{P0, P1, P2, P3, C}

-- a segment, by its two ends
abbrev pub FaceSegment : Type 0
FaceSegment = FacePoint × FacePoint

-- the number whose sign joins four crossings
abbrev pub Δ : ℤ → ℤ → ℤ → ℤ → ℤ
Δ g00 g10 g01 g11 = g00 *ℤ g11 -ℤ g10 *ℤ g01

-- four crossings are joined by the sign of Δ
abbrev pub joined_by_Δ : Sign → List FaceSegment
joined_by_Δ plus = (P0, P3) ∷ (P1, P2) ∷ []
joined_by_Δ minus = (P0, P2) ∷ (P1, P3) ∷ []
joined_by_Δ none = (P0, C) ∷ (P1, C) ∷ (P2, C) ∷ (P3, C) ∷ []

-- two crossings are joined by one segment; off the level there are none, two or four
abbrev pub join : List FacePoint → Sign → List FaceSegment
join [] d = []
join (p ∷ []) d = []
join (p ∷ q ∷ []) d = (p, q) ∷ []
join (p ∷ q ∷ r ∷ []) d = []
join (p ∷ q ∷ r ∷ t ∷ []) d = joined_by_Δ d
join (p ∷ q ∷ r ∷ t ∷ u ∷ ps) d = []

-- a point in front of others, if its edge has a crossing
abbrev pub enter : Bool → FacePoint → List FacePoint → List FacePoint
enter true p ps = p ∷ ps
enter false p ps = ps

-- the crossings of a face, from whether each of its edges has one
abbrev pub crossed_edges : Bool → Bool → Bool → Bool → List FacePoint
crossed_edges p0 p1 p2 p3 = enter p0 P0 (enter p1 P1 (enter p2 P2 (enter p3 P3 [])))

-- the crossings of a face, from the signs at its corners
abbrev pub crossings : Sign → Sign → Sign → Sign → List FacePoint
crossings s00 s10 s01 s11 = crossed_edges (opposite s00 s01) (opposite s10 s11) (opposite s00 s10) (opposite s01 s11)

-- the segments of a face
abbrev pub face_segments : ℤ → ℤ → ℤ → ℤ → List FaceSegment
face_segments g00 g10 g01 g11 = join (crossings (sign g00) (sign g10) (sign g01) (sign g11)) (sign (Δ g00 g10 g01 g11))

-- whether the level meets a corner
abbrev pub meets_level : ℤ → ℤ → ℤ → ℤ → Bool
meets_level g00 g10 g01 g11 = on_level g00 || (on_level g10 || (on_level g01 || on_level g11))

-- a face has its segments where the level meets no corner of it
abbrev pub face_rule : ℤ → ℤ → ℤ → ℤ → Option (List FaceSegment)
face_rule g00 g10 g01 g11 = if meets_level g00 g10 g01 g11 then None else Some (face_segments g00 g10 g01 g11)

-- whether all four edges have a crossing
abbrev pub all_crossed : Sign → Sign → Sign → Sign → Bool
all_crossed s00 s10 s01 s11 = opposite s00 s01 && (opposite s10 s11 && (opposite s00 s10 && opposite s01 s11))

-- whether all four edges have a crossing and Δ is 0, from the signs at the corners and that of Δ
abbrev pub centred : Sign → Sign → Sign → Sign → Sign → Bool
centred s00 s10 s01 s11 d = all_crossed s00 s10 s01 s11 && sign_is_none d

-- whether a face has its centre
abbrev pub has_centre : ℤ → ℤ → ℤ → ℤ → Bool
has_centre g00 g10 g01 g11 = centred (sign g00) (sign g10) (sign g01) (sign g11) (sign (Δ g00 g10 g01 g11))

-- the sum of the sizes of the four heights
abbrev pub total : ℤ → ℤ → ℤ → ℤ → ℕ
total g00 g10 g01 g11 = unsigned_abs g00 + unsigned_abs g10 + unsigned_abs g01 + unsigned_abs g11

-- the centre's offsets along the first and the second axis
abbrev pub centre_offsets : ℤ → ℤ → ℤ → ℤ → Centre
centre_offsets g00 g10 g01 g11 = record {
  first = offset (unsigned_abs g00 + unsigned_abs g01) (total g00 g10 g01 g11);
  second = offset (unsigned_abs g00 + unsigned_abs g10) (total g00 g10 g01 g11);
}

-- the centre of a face that has one
abbrev pub centre_of_face : ℤ → ℤ → ℤ → ℤ → Option Centre
centre_of_face g00 g10 g01 g11 = if has_centre g00 g10 g01 g11 then Some (centre_offsets g00 g10 g01 g11) else None

-- the crossing of the edge that a point is on
abbrev pub crossing_at : ℤ → ℤ → ℤ → ℤ → FacePoint → Option Offset
crossing_at g00 g10 g01 g11 P0 = crossing_of g00 g01
crossing_at g00 g10 g01 g11 P1 = crossing_of g10 g11
crossing_at g00 g10 g01 g11 P2 = crossing_of g00 g10
crossing_at g00 g10 g01 g11 P3 = crossing_of g01 g11
crossing_at g00 g10 g01 g11 C = None
