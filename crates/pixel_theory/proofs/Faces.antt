-- How often the points of a face are named by its segments: a case for each of the signs, computed.
use Rattle.std.proofs.Common.{◌≡◌, Bool, true, false, ◌||◌, eqb, ℤ, count_by, refl}
use Rattle.std.proofs.lemmas.Bool.{or_parts, eqb-true}
use Rattle.cell.specs.Face.{FaceSegment, join, crossings, face_segments, meets_level, Δ}
use Rattle.cell.specs.Interpolant.{same, degree}
use Rattle.cell.specs.Level.{Sign, sign, sign_is_none}
use Rattle.cell.specs.declared.face.FacePoint.{FacePoint}
use Rattle.cell.proofs.Joints.{each_point, each_sign, either_side, at_point, at_sign, at_side}

-- a segment names a point
abbrev pub touches : FacePoint → FaceSegment → Bool
touches x s = same s.0 x || (same s.1 x || false)

-- what is said of the signs at the corners, of Δ and of a point, holds for all off the level if it is so computed
module _ (t : Sign → Sign → Sign → Sign → Sign → FacePoint → Bool) where
  abbrev at11 : Sign → Sign → Sign → Sign → Bool
  at11 s00 s10 s01 s11 = each_sign (λ d. each_point (t s00 s10 s01 s11 d))

  abbrev pub computed : Bool
  computed = either_side (λ s00. either_side (λ s10. either_side (λ s01. either_side (at11 s00 s10 s01))))

  pub for_all : computed ≡ true → (s00 s10 s01 s11 d : Sign) → (sign_is_none s00 || (sign_is_none s10 || (sign_is_none s01 || sign_is_none s11))) ≡ false
      → (x : FacePoint) → t s00 s10 s01 s11 d x ≡ true
  for_all all s00 s10 s01 s11 d off x =
      let parts00 = or_parts (sign_is_none s00) _ off in
      let parts10 = or_parts (sign_is_none s10) _ parts00.1 in
      let parts01 = or_parts (sign_is_none s01) (sign_is_none s11) parts10.1 in
      let h00 = at_side (λ s00. either_side (λ s10. either_side (λ s01. either_side (at11 s00 s10 s01)))) all s00 parts00.0 in
      let h10 = at_side (λ s10. either_side (λ s01. either_side (at11 s00 s10 s01))) h00 s10 parts10.0 in
      let h01 = at_side (λ s01. either_side (at11 s00 s10 s01)) h10 s01 parts01.0 in
      let h11 = at_side (at11 s00 s10 s01) h01 s11 parts01.1 in
      let hd = at_sign (λ d. each_point (t s00 s10 s01 s11 d)) h11 d in
      at_point (t s00 s10 s01 s11 d) hd x

abbrev counted : Sign → Sign → Sign → Sign → Sign → FacePoint → Bool
counted s00 s10 s01 s11 d x = eqb (count_by (touches x) (join (crossings s00 s10 s01 s11) d)) (degree s00 s10 s01 s11 d x)

all_counted : computed counted ≡ true
all_counted = refl

module _ (g00 g10 g01 g11 : ℤ) (off : meets_level g00 g10 g01 g11 ≡ false) where
  -- a crossing is named once, the centre four times
  pub count_touches : (x : FacePoint) → count_by (touches x) (face_segments g00 g10 g01 g11) ≡ degree (sign g00) (sign g10) (sign g01) (sign g11) (sign (Δ g00 g10 g01 g11)) x
  count_touches x = eqb-true _ _ (for_all counted all_counted (sign g00) (sign g10) (sign g01) (sign g11) (sign (Δ g00 g10 g01 g11)) off x)
