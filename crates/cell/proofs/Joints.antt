-- How the crossings of a face are joined: a case for each of the signs at its corners, of Δ and of its points, computed.
use Rattle.std.proofs.Common.{◌≡◌, Bool, true, false, ◌&&◌, ◌||◌, eqb, refl, arith}
use Rattle.std.proofs.lemmas.Bool.{and_parts, or_parts, eqb-true, true≢false}
use Rattle.cell.specs.Level.{Sign, minus, none, plus, sign_is_none}
use Rattle.cell.specs.Crossing.{opposite}
use Rattle.cell.specs.Face.{FacePoint, P0, P1, P2, P3, C, join, joined_by_Δ, crossings}
use Rattle.cell.specs.Interpolant.{Corner, c00, c10, c01, c11, corner, beside, times_in, ends_at, one_if, degree}

abbrev pub either_side : (Sign → Bool) → Bool
either_side t = t minus && t plus

abbrev pub each_sign : (Sign → Bool) → Bool
each_sign t = t minus && (t none && t plus)

abbrev pub each_point : (FacePoint → Bool) → Bool
each_point t = t P0 && (t P1 && (t P2 && (t P3 && t C)))

pub at_side : (t : Sign → Bool) → either_side t ≡ true → (s : Sign) → sign_is_none s ≡ false → t s ≡ true
at_side t h minus off = (and_parts _ _ h).0
at_side t h none off = absurd (true≢false off)
at_side t h plus off = (and_parts _ _ h).1

pub at_sign : (t : Sign → Bool) → each_sign t ≡ true → (s : Sign) → t s ≡ true
at_sign t h minus = grind arith
at_sign t h none = grind arith
at_sign t h plus = grind arith

pub at_point : (t : FacePoint → Bool) → each_point t ≡ true → (x : FacePoint) → t x ≡ true
at_point t h P0 = grind arith
at_point t h P1 = grind arith
at_point t h P2 = grind arith
at_point t h P3 = grind arith
at_point t h C = grind arith

abbrev each_corner : (Corner → Bool) → Bool
each_corner t = t c00 && (t c10 && (t c01 && t c11))

at_corner : (t : Corner → Bool) → each_corner t ≡ true → (k : Corner) → t k ≡ true
at_corner t h c00 = grind arith
at_corner t h c10 = grind arith
at_corner t h c01 = grind arith
at_corner t h c11 = grind arith

-- the other side of the level
abbrev pub turned : Sign → Sign
turned minus = plus
turned none = none
turned plus = minus

-- a sign kept or turned round, as another is plus or not
abbrev pub signed : Sign → Sign → Sign
signed minus t = turned t
signed none t = none
signed plus t = t

-- with four crossings, the sign s at the corners 00 and 11 and the sign t of Δ
abbrev cut_test : Sign → Sign → Corner → Bool
cut_test s t k = eqb (times_in (joined_by_Δ t) (beside k)) (one_if (opposite (corner s (turned s) (turned s) s k) (signed s t)))

all_cut : either_side (λ s. each_sign (λ t. each_corner (cut_test s t))) ≡ true
all_cut = refl

pub cut_by_signs : (s t : Sign) → sign_is_none s ≡ false → (k : Corner)
    → times_in (joined_by_Δ t) (beside k) ≡ one_if (opposite (corner s (turned s) (turned s) s k) (signed s t))
cut_by_signs s t off k =
    let at_s = at_side (λ s. each_sign (λ t. each_corner (cut_test s t))) all_cut s off in
    let at_t = at_sign (λ t. each_corner (cut_test s t)) at_s t in
    eqb-true _ _ (at_corner (cut_test s t) at_t k)

abbrev joined_test : Sign → Sign → Sign → Sign → Sign → FacePoint → Bool
joined_test s00 s10 s01 s11 d x = eqb (ends_at (join (crossings s00 s10 s01 s11) d) x) (degree s00 s10 s01 s11 d x)

abbrev test11 : Sign → Sign → Sign → Sign → Bool
test11 s00 s10 s01 s11 = each_sign (λ d. each_point (joined_test s00 s10 s01 s11 d))

abbrev test01 : Sign → Sign → Sign → Bool
test01 s00 s10 s01 = either_side (test11 s00 s10 s01)

abbrev test10 : Sign → Sign → Bool
test10 s00 s10 = either_side (test01 s00 s10)

abbrev test00 : Sign → Bool
test00 s00 = either_side (test10 s00)

all_joined : either_side test00 ≡ true
all_joined = refl

pub joined_by_signs : (s00 s10 s01 s11 d : Sign) → (sign_is_none s00 || (sign_is_none s10 || (sign_is_none s01 || sign_is_none s11))) ≡ false
    → (x : FacePoint) → ends_at (join (crossings s00 s10 s01 s11) d) x ≡ degree s00 s10 s01 s11 d x
joined_by_signs s00 s10 s01 s11 d off x =
    let parts00 = or_parts (sign_is_none s00) _ off in
    let parts10 = or_parts (sign_is_none s10) _ parts00.1 in
    let parts01 = or_parts (sign_is_none s01) (sign_is_none s11) parts10.1 in
    let at00 = at_side test00 all_joined s00 parts00.0 in
    let at10 = at_side (test10 s00) at00 s10 parts10.0 in
    let at01 = at_side (test01 s00 s10) at10 s01 parts01.0 in
    let at11 = at_side (test11 s00 s10 s01) at01 s11 parts01.1 in
    let at_d = at_sign (λ d. each_point (joined_test s00 s10 s01 s11 d)) at11 d in
    eqb-true _ _ (at_point (joined_test s00 s10 s01 s11 d) at_d x)
