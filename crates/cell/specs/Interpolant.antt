-- The segments of a face follow the bilinear interpolant of the heights at its corners,
-- G(u, v) = (1 - u)(1 - v) G00 + u (1 - v) G10 + (1 - u) v G01 + u v G11.
use Rattle.std.specs.Prelude.{◌≡◌, ℕ, ◌+◌, ◌-◌, ◌*◌, Bool, true, false, if◌then◌else◌, ◌&&◌, List, [], ◌∷◌, ℤ, pos, ◌+ℤ◌, ◌*ℤ◌, neg_ℤ, is_some, count_by, ◌==◌}
use Rattle.cell.specs.Level.{Sign, minus, none, plus, sign}
use Rattle.cell.specs.Crossing.{opposite, Offset, offset, along_edge}
use Rattle.cell.specs.Face.{FacePoint, P0, P1, P2, P3, C, FaceSegment, Δ, total, all_crossed, centred, has_centre, centre_offsets, crossing_at, meets_level, face_segments}

-- what is left of an edge beyond an offset, which is at most 1
abbrev pub rest : Offset → ℕ
rest o = o.denominator - o.numerator

-- m n G(a/m, b/n), at the offsets u = a/m and v = b/n
abbrev pub scaled : ℤ → ℤ → ℤ → ℤ → Offset → Offset → ℤ
scaled g00 g10 g01 g11 u v =
    pos (rest u * rest v) *ℤ g00 +ℤ pos (u.numerator * rest v) *ℤ g10
    +ℤ pos (rest u * v.numerator) *ℤ g01 +ℤ pos (u.numerator * v.numerator) *ℤ g11

-- where a point of the face lies along the first axis
abbrev pub first_of : ℤ → ℤ → ℤ → ℤ → FacePoint → Offset
first_of g00 g10 g01 g11 P0 = offset 0 1
first_of g00 g10 g01 g11 P1 = offset 1 1
first_of g00 g10 g01 g11 P2 = along_edge g00 g10
first_of g00 g10 g01 g11 P3 = along_edge g01 g11
first_of g00 g10 g01 g11 C = (centre_offsets g00 g10 g01 g11).first

-- where a point of the face lies along the second axis
abbrev pub second_of : ℤ → ℤ → ℤ → ℤ → FacePoint → Offset
second_of g00 g10 g01 g11 P0 = along_edge g00 g01
second_of g00 g10 g01 g11 P1 = along_edge g10 g11
second_of g00 g10 g01 g11 P2 = offset 0 1
second_of g00 g10 g01 g11 P3 = offset 1 1
second_of g00 g10 g01 g11 C = (centre_offsets g00 g10 g01 g11).second

-- the interpolant at a point of the face, times the two denominators of the point's offsets
abbrev pub value_at : ℤ → ℤ → ℤ → ℤ → FacePoint → ℤ
value_at g00 g10 g01 g11 x = scaled g00 g10 g01 g11 (first_of g00 g10 g01 g11 x) (second_of g00 g10 g01 g11 x)

-- a number with the sign of another: kept where that is above the level, and turned round where it is below
abbrev pub with_sign : Sign → ℤ → ℤ
with_sign minus z = neg_ℤ z
with_sign none z = pos 0
with_sign plus z = z

-- the corners of the face
pub data Corner : Type 0 where
  c00 : Corner
  c10 : Corner
  c01 : Corner
  c11 : Corner

-- what four things are at a corner
abbrev pub corner : {X : Type 0} → X → X → X → X → Corner → X
corner x00 x10 x01 x11 c00 = x00
corner x00 x10 x01 x11 c10 = x10
corner x00 x10 x01 x11 c01 = x01
corner x00 x10 x01 x11 c11 = x11

-- the segment that cuts a corner off: it joins the crossings of the two edges that meet there
abbrev pub beside : Corner → FaceSegment
beside k = corner (P0, P2) (P1, P2) (P0, P3) (P1, P3) k

-- points are told apart by their numbers
abbrev pub number : FacePoint → ℕ
number P0 = 0
number P1 = 1
number P2 = 2
number P3 = 3
number C = 4

abbrev pub same : FacePoint → FacePoint → Bool
same x y = number x == number y

-- how often a segment is among others
abbrev pub times_in : List FaceSegment → FaceSegment → ℕ
times_in ss s = count_by (λ t. same s.0 t.0 && same s.1 t.1) ss

-- how often a point is an end of a segment
abbrev pub ends_at : List FaceSegment → FacePoint → ℕ
ends_at ss x = count_by (λ s. same x s.0) ss + count_by (λ s. same x s.1) ss

abbrev pub one_if : Bool → ℕ
one_if b = if b then 1 else 0

-- how many segments a point lies on: one at a crossing, four at the centre where the face has it
abbrev pub degree : Sign → Sign → Sign → Sign → Sign → FacePoint → ℕ
degree s00 s10 s01 s11 d P0 = one_if (opposite s00 s01)
degree s00 s10 s01 s11 d P1 = one_if (opposite s10 s11)
degree s00 s10 s01 s11 d P2 = one_if (opposite s00 s10)
degree s00 s10 s01 s11 d P3 = one_if (opposite s01 s11)
degree s00 s10 s01 s11 d C = if centred s00 s10 s01 s11 d then 4 else 0

-- segments that follow the interpolant
pub record Interpolated (g00 g10 g01 g11 : ℤ) (ss : List FaceSegment) : Type 0 where
  -- the interpolant is 0 at each crossing
  pub on_edges : (x : FacePoint) → is_some (crossing_at g00 g10 g01 g11 x) ≡ true → value_at g00 g10 g01 g11 x ≡ pos 0
  -- with four crossings, S times the interpolant at the centre is Δ with the sign of G00, where S is the sum of the four sizes: S S G(C) is S times that
  pub middle : all_crossed (sign g00) (sign g10) (sign g01) (sign g11) ≡ true → value_at g00 g10 g01 g11 C ≡ pos (total g00 g10 g01 g11) *ℤ with_sign (sign g00) (Δ g00 g10 g01 g11)
  -- with four crossings, a corner is cut off exactly when its sign is opposite to that of the interpolant at the centre
  pub cut_off : all_crossed (sign g00) (sign g10) (sign g01) (sign g11) ≡ true → (k : Corner) → times_in ss (beside k) ≡ one_if (opposite (sign (corner g00 g10 g01 g11 k)) (sign (value_at g00 g10 g01 g11 C)))
  -- where Δ is 0 the interpolant is 0 at the centre, and the four segments end there
  pub star : has_centre g00 g10 g01 g11 ≡ true → (value_at g00 g10 g01 g11 C ≡ pos 0) × (ss ≡ (P0, C) ∷ (P1, C) ∷ (P2, C) ∷ (P3, C) ∷ [])
  -- a crossing lies on one segment, the centre on four or on none, and nothing else is an end
  pub joined : (x : FacePoint) → ends_at ss x ≡ degree (sign g00) (sign g10) (sign g01) (sign g11) (sign (Δ g00 g10 g01 g11)) x

-- off the level the segments of every face follow the interpolant
abbrev pub Follows : Type 0
Follows = (g00 g10 g01 g11 : ℤ) → meets_level g00 g10 g01 g11 ≡ false → Interpolated g00 g10 g01 g11 (face_segments g00 g10 g01 g11)
