-- The interpolant at the centre of a face with four crossings.
use Rattle.std.proofs.Common.{◌≡◌, ℕ, zero, suc, ◌+◌, ◌-◌, ◌*◌, true, ℤ, pos, negsuc, ◌+ℤ◌, ◌-ℤ◌, ◌*ℤ◌, neg_ℤ, sym, ap, ◌∙◌, mul_comm, add-mul, arith}
use Rattle.std.proofs.lemmas.Int.{ints}
use Rattle.std.proofs.lemmas.Bool.{false≢true}
use Rattle.cell.specs.Level.{sign}
use Rattle.cell.specs.Face.{C, Δ, total, all_crossed}
use Rattle.cell.specs.Interpolant.{value_at, with_sign}
use Rattle.cell.proofs.Weights.{weighted, regrouped, sum_of_weights}

-- the heights of a face with four crossings: the corners 00 and 11 are on one side of the level, the two others on the other side
pub data Crossed : ℤ → ℤ → ℤ → ℤ → Type 0 where
  above : (a b e d : ℕ) → Crossed (pos (suc a)) (negsuc b) (negsuc e) (pos (suc d))
  below : (a b e d : ℕ) → Crossed (negsuc a) (pos (suc b)) (pos (suc e)) (negsuc d)

pub crossed : (g00 g10 g01 g11 : ℤ) → all_crossed (sign g00) (sign g10) (sign g01) (sign g11) ≡ true → Crossed g00 g10 g01 g11
crossed (pos zero) g10 g01 g11 h = absurd (false≢true h)
crossed (pos (suc a)) g10 (pos zero) g11 h = absurd (false≢true h)
crossed (pos (suc a)) g10 (pos (suc e)) g11 h = absurd (false≢true h)
crossed (pos (suc a)) (pos zero) (negsuc e) g11 h = absurd (false≢true h)
crossed (pos (suc a)) (pos (suc b)) (negsuc e) (pos zero) h = absurd (false≢true h)
crossed (pos (suc a)) (pos (suc b)) (negsuc e) (pos (suc d)) h = absurd (false≢true h)
crossed (pos (suc a)) (pos (suc b)) (negsuc e) (negsuc d) h = absurd (false≢true h)
crossed (pos (suc a)) (negsuc b) (negsuc e) (pos zero) h = absurd (false≢true h)
crossed (pos (suc a)) (negsuc b) (negsuc e) (pos (suc d)) h = above a b e d
crossed (pos (suc a)) (negsuc b) (negsuc e) (negsuc d) h = absurd (false≢true h)
crossed (negsuc a) g10 (pos zero) g11 h = absurd (false≢true h)
crossed (negsuc a) g10 (negsuc e) g11 h = absurd (false≢true h)
crossed (negsuc a) (pos zero) (pos (suc e)) g11 h = absurd (false≢true h)
crossed (negsuc a) (pos (suc b)) (pos (suc e)) (pos zero) h = absurd (false≢true h)
crossed (negsuc a) (pos (suc b)) (pos (suc e)) (pos (suc d)) h = absurd (false≢true h)
crossed (negsuc a) (pos (suc b)) (pos (suc e)) (negsuc d) h = below a b e d
crossed (negsuc a) (negsuc b) (pos (suc e)) (pos zero) h = absurd (false≢true h)
crossed (negsuc a) (negsuc b) (pos (suc e)) (pos (suc d)) h = absurd (false≢true h)
crossed (negsuc a) (negsuc b) (pos (suc e)) (negsuc d) h = absurd (false≢true h)

-- the four sizes, and the interpolant at the second offset of the centre on the low and on the high edge
module _ (a b e d : ℕ) where
  abbrev twist : ℤ
  twist = pos (a * d) -ℤ pos (b * e)

  low_above : pos ((e + d) * a) +ℤ neg_ℤ (pos ((a + b) * e)) ≡ twist
  low_above = omega (arith, ints, add-mul e d a, add-mul a b e, mul_comm e a, mul_comm d a)

  high_above : neg_ℤ (pos ((e + d) * b)) +ℤ pos ((a + b) * d) ≡ twist
  high_above = omega (arith, ints, add-mul e d b, add-mul a b d, mul_comm e b, mul_comm d b)

  low_below : neg_ℤ (pos ((e + d) * a)) +ℤ pos ((a + b) * e) ≡ neg_ℤ twist
  low_below = omega (arith, ints, add-mul e d a, add-mul a b e, mul_comm e a, mul_comm d a)

  high_below : pos ((e + d) * b) +ℤ neg_ℤ (pos ((a + b) * d)) ≡ neg_ℤ twist
  high_below = omega (arith, ints, add-mul e d b, add-mul a b d, mul_comm e b, mul_comm d b)

  -- what is left beyond the centre's two offsets
  beyond_first : (a + b + e + d) - (a + e) ≡ b + d
  beyond_first = omega arith

  beyond_second : (a + b + e + d) - (a + b) ≡ e + d
  beyond_second = omega arith

  all_sizes : (b + d) + (a + e) ≡ a + b + e + d
  all_sizes = omega arith

-- where the interpolant along the second axis is t on the low and on the high edge, it is t between them
between : (g00 g10 g01 g11 t : ℤ) (r u s v w : ℕ) → pos s *ℤ g00 +ℤ pos v *ℤ g01 ≡ t → pos s *ℤ g10 +ℤ pos v *ℤ g11 ≡ t → r + u ≡ w
    → weighted (r * s) (u * s) (r * v) (u * v) g00 g10 g01 g11 ≡ pos w *ℤ t
between g00 g10 g01 g11 t r u s v w low high sum =
    regrouped r u s v g00 g10 g01 g11
    ∙ (λ i. pos r *ℤ low i +ℤ pos u *ℤ high i)
    ∙ sym (sum_of_weights r u t) ∙ ap (λ n. pos n *ℤ t) sum

-- the same by the sizes of the heights, with what is left beyond the centre's offsets
at_centre : (g00 g10 g01 g11 t : ℤ) (a b e d : ℕ) → pos (e + d) *ℤ g00 +ℤ pos (a + b) *ℤ g01 ≡ t → pos (e + d) *ℤ g10 +ℤ pos (a + b) *ℤ g11 ≡ t
    → weighted ((a + b + e + d - (a + e)) * (a + b + e + d - (a + b))) ((a + e) * (a + b + e + d - (a + b))) ((a + b + e + d - (a + e)) * (a + b)) ((a + e) * (a + b)) g00 g10 g01 g11
    ≡ pos (a + b + e + d) *ℤ t
at_centre g00 g10 g01 g11 t a b e d low high =
    (λ i. weighted (beyond_first a b e d i * beyond_second a b e d i) ((a + e) * beyond_second a b e d i) (beyond_first a b e d i * (a + b)) ((a + e) * (a + b)) g00 g10 g01 g11)
    ∙ between g00 g10 g01 g11 t (b + d) (a + e) (e + d) (a + b) (a + b + e + d) low high (all_sizes a b e d)

-- S times the interpolant at the centre is Δ with the sign of G00
pub middle_of : {g00 g10 g01 g11 : ℤ} → Crossed g00 g10 g01 g11 → value_at g00 g10 g01 g11 C ≡ pos (total g00 g10 g01 g11) *ℤ with_sign (sign g00) (Δ g00 g10 g01 g11)
middle_of (above a b e d) =
    at_centre (pos (suc a)) (negsuc b) (negsuc e) (pos (suc d)) (twist (suc a) (suc b) (suc e) (suc d)) (suc a) (suc b) (suc e) (suc d)
    (low_above (suc a) (suc b) (suc e) (suc d)) (high_above (suc a) (suc b) (suc e) (suc d))
middle_of (below a b e d) =
    at_centre (negsuc a) (pos (suc b)) (pos (suc e)) (negsuc d) (neg_ℤ (twist (suc a) (suc b) (suc e) (suc d))) (suc a) (suc b) (suc e) (suc d)
    (low_below (suc a) (suc b) (suc e) (suc d)) (high_below (suc a) (suc b) (suc e) (suc d))

pub middle : (g00 g10 g01 g11 : ℤ) → all_crossed (sign g00) (sign g10) (sign g01) (sign g11) ≡ true → value_at g00 g10 g01 g11 C ≡ pos (total g00 g10 g01 g11) *ℤ with_sign (sign g00) (Δ g00 g10 g01 g11)
middle g00 g10 g01 g11 h = middle_of (crossed g00 g10 g01 g11 h)
