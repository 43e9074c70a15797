-- Off the level the segments of every face follow the interpolant.
use Rattle.std.proofs.Common.{◌≡◌, ℕ, zero, suc, ◌*◌, ◌<◌, true, [], ◌∷◌, ℤ, pos, negsuc, ◌*ℤ◌, neg_ℤ, sym, refl, ap, ◌∙◌, mul-pos, mul-zero, arith}
use lib.IntN.{*ℤ-zero}
use Rattle.std.proofs.lemmas.Bool.{false≢true, and_parts}
use Rattle.cell.specs.Level.{Sign, minus, none, plus, sign, on_level}
use Rattle.cell.specs.Crossing.{opposite}
use Rattle.cell.specs.Face.{P0, P1, P2, P3, C, Δ, total, joined_by_Δ, all_crossed, has_centre, face_segments}
use Rattle.cell.specs.Interpolant.{Corner, c00, c10, c01, c11, corner, beside, times_in, one_if, value_at, with_sign, Follows}
use Rattle.cell.proofs.Edges.{zero_at}
use Rattle.cell.proofs.Centres.{Crossed, above, below, crossed, middle_of, middle}
use Rattle.cell.proofs.Joints.{turned, cut_by_signs, joined_by_signs}

-- ---- signs
sign_above : (n : ℕ) → 0 < n → sign (pos n) ≡ plus
sign_above zero h = absurd (omega arith)
sign_above (suc n) h = refl

sign_below : (n : ℕ) → 0 < n → sign (neg_ℤ (pos n)) ≡ minus
sign_below zero h = absurd (omega arith)
sign_below (suc n) h = refl

-- a weight keeps the sign
sign_weight : (s : ℕ) → 0 < s → (z : ℤ) → sign (pos s *ℤ z) ≡ sign z
sign_weight s h (pos zero) = ap (λ n. sign (pos n)) (mul-zero s)
sign_weight s h (pos (suc n)) = let p : 0 < suc n = omega arith in sign_above (s * suc n) (mul-pos h p)
sign_weight s h (negsuc n) = let p : 0 < suc n = omega arith in sign_below (s * suc n) (mul-pos h p)

sign_turned : (z : ℤ) → sign (neg_ℤ z) ≡ turned (sign z)
sign_turned (pos zero) = refl
sign_turned (pos (suc n)) = refl
sign_turned (negsuc n) = refl

sign_corner : (x00 x10 x01 x11 : ℤ) (k : Corner) → sign (corner x00 x10 x01 x11 k) ≡ corner (sign x00) (sign x10) (sign x01) (sign x11) k
sign_corner x00 x10 x01 x11 c00 = refl
sign_corner x00 x10 x01 x11 c10 = refl
sign_corner x00 x10 x01 x11 c01 = refl
sign_corner x00 x10 x01 x11 c11 = refl

-- ---- four crossings
all_segments : {g00 g10 g01 g11 : ℤ} → Crossed g00 g10 g01 g11 → face_segments g00 g10 g01 g11 ≡ joined_by_Δ (sign (Δ g00 g10 g01 g11))
all_segments (above a b e d) = refl
all_segments (below a b e d) = refl

cut_off_of : {g00 g10 g01 g11 : ℤ} → Crossed g00 g10 g01 g11 → (k : Corner)
    → times_in (face_segments g00 g10 g01 g11) (beside k) ≡ one_if (opposite (sign (corner g00 g10 g01 g11 k)) (sign (value_at g00 g10 g01 g11 C)))
cut_off_of {g00} {g10} {g01} {g11} (above a b e d) k =
    cut_by_signs plus (sign (Δ g00 g10 g01 g11)) refl k
    ∙ sym (λ i. one_if (opposite (sign_corner g00 g10 g01 g11 k i) (value i)))
  where
    some : 0 < total (pos (suc a)) (negsuc b) (negsuc e) (pos (suc d))
    some = omega arith

    value : sign (value_at (pos (suc a)) (negsuc b) (negsuc e) (pos (suc d)) C) ≡ sign (Δ (pos (suc a)) (negsuc b) (negsuc e) (pos (suc d)))
    value = ap sign (middle_of (above a b e d)) ∙ sign_weight (total (pos (suc a)) (negsuc b) (negsuc e) (pos (suc d))) some (Δ (pos (suc a)) (negsuc b) (negsuc e) (pos (suc d)))
cut_off_of {g00} {g10} {g01} {g11} (below a b e d) k =
    cut_by_signs minus (sign (Δ g00 g10 g01 g11)) refl k
    ∙ sym (λ i. one_if (opposite (sign_corner g00 g10 g01 g11 k i) (value i)))
  where
    some : 0 < total (negsuc a) (pos (suc b)) (pos (suc e)) (negsuc d)
    some = omega arith

    value : sign (value_at (negsuc a) (pos (suc b)) (pos (suc e)) (negsuc d) C) ≡ turned (sign (Δ (negsuc a) (pos (suc b)) (pos (suc e)) (negsuc d)))
    value = ap sign (middle_of (below a b e d)) ∙ sign_weight (total (negsuc a) (pos (suc b)) (pos (suc e)) (negsuc d)) some (neg_ℤ (Δ (negsuc a) (pos (suc b)) (pos (suc e)) (negsuc d))) ∙ sign_turned (Δ (negsuc a) (pos (suc b)) (pos (suc e)) (negsuc d))

-- ---- the centre
is_zero : (z : ℤ) → on_level z ≡ true → z ≡ pos 0
is_zero (pos zero) h = refl
is_zero (pos (suc n)) h = absurd (false≢true h)
is_zero (negsuc n) h = absurd (false≢true h)

zero_signed : (s : Sign) → with_sign s (pos 0) ≡ pos 0
zero_signed minus = refl
zero_signed none = refl
zero_signed plus = refl

star_of : (g00 g10 g01 g11 : ℤ) → has_centre g00 g10 g01 g11 ≡ true
    → (value_at g00 g10 g01 g11 C ≡ pos 0) × (face_segments g00 g10 g01 g11 ≡ (P0, C) ∷ (P1, C) ∷ (P2, C) ∷ (P3, C) ∷ [])
star_of g00 g10 g01 g11 h =
    let both = and_parts (all_crossed (sign g00) (sign g10) (sign g01) (sign g11)) (on_level (Δ g00 g10 g01 g11)) h in
    let flat = is_zero (Δ g00 g10 g01 g11) both.1 in (
      middle g00 g10 g01 g11 both.0
          ∙ ap (λ z. pos (total g00 g10 g01 g11) *ℤ z) (ap (with_sign (sign g00)) flat ∙ zero_signed (sign g00))
          ∙ *ℤ-zero (pos (total g00 g10 g01 g11)),
      all_segments (crossed g00 g10 g01 g11 both.0) ∙ ap (λ z. joined_by_Δ (sign z)) flat,
    )

pub follows : Follows
follows g00 g10 g01 g11 off = record {
  on_edges = zero_at g00 g10 g01 g11;
  middle = middle g00 g10 g01 g11;
  cut_off = λ h. cut_off_of (crossed g00 g10 g01 g11 h);
  star = star_of g00 g10 g01 g11;
  joined = joined_by_signs (sign g00) (sign g10) (sign g01) (sign g11) (sign (Δ g00 g10 g01 g11)) off;
}
