-- The interpolant is 0 at the crossings.
use Rattle.std.proofs.Common.{◌≡◌, ℕ, zero, suc, ◌+◌, ◌-◌, ◌*◌, Bool, true, false, cond, ℤ, pos, negsuc, ◌+ℤ◌, ◌*ℤ◌, neg_ℤ, nat_abs, is_some, Some, None, refl, ap, ◌∙◌, mul_comm, one-mul, mul-zero, zero-mul, mul-one, arith}
use lib.IntN.{+ℤ_invr, +ℤ_invl, zero-*ℤ}
use Rattle.std.proofs.lemmas.Int.{ints}
use Rattle.std.proofs.lemmas.Bool.{false≢true}
use Rattle.cell.specs.Level.{sign}
use Rattle.cell.specs.Crossing.{Offset, opposite, along_edge}
use Rattle.cell.specs.Face.{FacePoint, P0, P1, P2, P3, C, crossing_at}
use Rattle.cell.specs.Interpolant.{value_at}
use Rattle.cell.proofs.Weights.{weighted}

-- the heights at the ends of a crossed edge, each weighted with the size of the other, are 0 together
pub balanced : (x y : ℤ) → opposite (sign x) (sign y) ≡ true → pos (nat_abs y) *ℤ x +ℤ pos (nat_abs x) *ℤ y ≡ pos 0
balanced (pos zero) y h = absurd (false≢true h)
balanced (pos (suc m)) (pos zero) h = absurd (false≢true h)
balanced (pos (suc m)) (pos (suc n)) h = absurd (false≢true h)
balanced (pos (suc m)) (negsuc n) h = ap (λ k. pos k +ℤ neg_ℤ (pos (suc m * suc n))) (mul_comm (suc n) (suc m)) ∙ +ℤ_invr (pos (suc m * suc n))
balanced (negsuc m) (pos zero) h = absurd (false≢true h)
balanced (negsuc m) (pos (suc n)) h = ap (λ k. neg_ℤ (pos k) +ℤ pos (suc m * suc n)) (mul_comm (suc n) (suc m)) ∙ +ℤ_invl (pos (suc m * suc n))
balanced (negsuc m) (negsuc n) h = absurd (false≢true h)

module _ (g00 g10 g01 g11 : ℤ) where
  -- the weights at a crossing computed
  reweighted : (j00 j10 j01 j11 k00 k10 k01 k11 : ℕ) → j00 ≡ k00 → j10 ≡ k10 → j01 ≡ k01 → j11 ≡ k11
      → weighted j00 j10 j01 j11 g00 g10 g01 g11 ≡ weighted k00 k10 k01 k11 g00 g10 g01 g11
  reweighted j00 j10 j01 j11 k00 k10 k01 k11 e00 e10 e01 e11 = λ i. weighted (e00 i) (e10 i) (e01 i) (e11 i) g00 g10 g01 g11

  on_low_first : (m n : ℕ) → weighted m 0 n 0 g00 g10 g01 g11 ≡ pos m *ℤ g00 +ℤ pos n *ℤ g01
  on_low_first m n = (λ i. pos m *ℤ g00 +ℤ zero-*ℤ g10 i +ℤ pos n *ℤ g01 +ℤ zero-*ℤ g11 i) ∙ kept (pos m *ℤ g00) (pos n *ℤ g01)
    where
      kept : (w y : ℤ) → w +ℤ pos 0 +ℤ y +ℤ pos 0 ≡ w +ℤ y
      kept w y = omega (arith, ints)

  on_high_first : (m n : ℕ) → weighted 0 m 0 n g00 g10 g01 g11 ≡ pos m *ℤ g10 +ℤ pos n *ℤ g11
  on_high_first m n = (λ i. zero-*ℤ g00 i +ℤ pos m *ℤ g10 +ℤ zero-*ℤ g01 i +ℤ pos n *ℤ g11) ∙ kept (pos m *ℤ g10) (pos n *ℤ g11)
    where
      kept : (x z : ℤ) → pos 0 +ℤ x +ℤ pos 0 +ℤ z ≡ x +ℤ z
      kept x z = omega (arith, ints)

  on_low_second : (m n : ℕ) → weighted m n 0 0 g00 g10 g01 g11 ≡ pos m *ℤ g00 +ℤ pos n *ℤ g10
  on_low_second m n = (λ i. pos m *ℤ g00 +ℤ pos n *ℤ g10 +ℤ zero-*ℤ g01 i +ℤ zero-*ℤ g11 i) ∙ kept (pos m *ℤ g00) (pos n *ℤ g10)
    where
      kept : (w x : ℤ) → w +ℤ x +ℤ pos 0 +ℤ pos 0 ≡ w +ℤ x
      kept w x = omega (arith, ints)

  on_high_second : (m n : ℕ) → weighted 0 0 m n g00 g10 g01 g11 ≡ pos m *ℤ g01 +ℤ pos n *ℤ g11
  on_high_second m n = (λ i. zero-*ℤ g00 i +ℤ zero-*ℤ g10 i +ℤ pos m *ℤ g01 +ℤ pos n *ℤ g11) ∙ kept (pos m *ℤ g01) (pos n *ℤ g11)
    where
      kept : (y z : ℤ) → pos 0 +ℤ pos 0 +ℤ y +ℤ z ≡ y +ℤ z
      kept y z = omega (arith, ints)

-- the rest of a crossed edge is the size at its upper end
left : (a b : ℕ) → a + b - a ≡ b
left a b = omega arith

-- a weight that one axis has whole, or not at all
whole : (k n : ℕ) → k ≡ n → 1 * k ≡ n
whole k n e = one-mul k ∙ e

whole_second : (k n : ℕ) → k ≡ n → k * 1 ≡ n
whole_second k n e = mul-one k ∙ e

crossed_by : (b : Bool) (o : Offset) → is_some (cond b (Some o) None) ≡ true → b ≡ true
crossed_by true o h = refl
crossed_by false o h = h

pub zero_at : (g00 g10 g01 g11 : ℤ) (x : FacePoint) → is_some (crossing_at g00 g10 g01 g11 x) ≡ true → value_at g00 g10 g01 g11 x ≡ pos 0
zero_at g00 g10 g01 g11 P0 h =
    reweighted g00 g10 g01 g11 _ _ _ _ (nat_abs g01) 0 (nat_abs g00) 0
    (whole _ _ (left (nat_abs g00) (nat_abs g01))) (zero-mul _) (one-mul _) (zero-mul _)
    ∙ on_low_first g00 g10 g01 g11 (nat_abs g01) (nat_abs g00)
    ∙ balanced g00 g01 (crossed_by (opposite (sign g00) (sign g01)) (along_edge g00 g01) h)
zero_at g00 g10 g01 g11 P1 h =
    reweighted g00 g10 g01 g11 _ _ _ _ 0 (nat_abs g11) 0 (nat_abs g10)
    (zero-mul _) (whole _ _ (left (nat_abs g10) (nat_abs g11))) (zero-mul _) (one-mul _)
    ∙ on_high_first g00 g10 g01 g11 (nat_abs g11) (nat_abs g10)
    ∙ balanced g10 g11 (crossed_by (opposite (sign g10) (sign g11)) (along_edge g10 g11) h)
zero_at g00 g10 g01 g11 P2 h =
    reweighted g00 g10 g01 g11 _ _ _ _ (nat_abs g10) (nat_abs g00) 0 0
    (whole_second _ _ (left (nat_abs g00) (nat_abs g10))) (mul-one _) (mul-zero _) (mul-zero _)
    ∙ on_low_second g00 g10 g01 g11 (nat_abs g10) (nat_abs g00)
    ∙ balanced g00 g10 (crossed_by (opposite (sign g00) (sign g10)) (along_edge g00 g10) h)
zero_at g00 g10 g01 g11 P3 h =
    reweighted g00 g10 g01 g11 _ _ _ _ 0 0 (nat_abs g11) (nat_abs g01)
    (mul-zero _) (mul-zero _) (whole_second _ _ (left (nat_abs g01) (nat_abs g11))) (mul-one _)
    ∙ on_high_second g00 g10 g01 g11 (nat_abs g11) (nat_abs g01)
    ∙ balanced g01 g11 (crossed_by (opposite (sign g01) (sign g11)) (along_edge g01 g11) h)
zero_at g00 g10 g01 g11 C h = absurd (false≢true h)
