-- Integers times natural weights: the laws that regroup an interpolant.
use Rattle.std.proofs.Common.{◌≡◌, ℕ, ◌+◌, ◌*◌, ℤ, pos, ◌+ℤ◌, ◌*ℤ◌, sym, ap, ◌∙◌, mul_assoc, add-mul, zero-mul, mul-add, arith}
use borrow.Author.Differences.{up, down, product_is, sum_is_lem, same_in}
use Rattle.std.proofs.lemmas.Int.{ints}

-- the sum of the heights at a face's corners, each with a weight
abbrev pub weighted : ℕ → ℕ → ℕ → ℕ → ℤ → ℤ → ℤ → ℤ → ℤ
weighted k00 k10 k01 k11 g00 g10 g01 g11 = pos k00 *ℤ g00 +ℤ pos k10 *ℤ g10 +ℤ pos k01 *ℤ g01 +ℤ pos k11 *ℤ g11

-- a weight goes to both parts of an integer
parts : (m : ℕ) (z : ℤ) → (up (pos m *ℤ z) ≡ m * up z) × (down (pos m *ℤ z) ≡ m * down z)
parts m z = (omega (arith, product_is (pos m) z, zero-mul (down z)), omega (arith, product_is (pos m) z, zero-mul (up z)))

pub weight_of_sum : (m : ℕ) (x y : ℤ) → pos m *ℤ (x +ℤ y) ≡ pos m *ℤ x +ℤ pos m *ℤ y
weight_of_sum m x y =
    same_in (pos m *ℤ (x +ℤ y)) (pos m *ℤ x +ℤ pos m *ℤ y)
    (omega (arith, parts m (x +ℤ y), parts m x, parts m y, sum_is_lem (pos m *ℤ x) (pos m *ℤ y), spread))
  where
    three : (a b c : ℕ) → m * (a + b + c) ≡ m * a + m * b + m * c
    three a b c = omega (arith, mul-add m (a + b) c, mul-add m a b)

    spread : m * up (x +ℤ y) + m * down x + m * down y ≡ m * down (x +ℤ y) + m * up x + m * up y
    spread = sym (three (up (x +ℤ y)) (down x) (down y)) ∙ ap (λ n. m * n) (sum_is_lem x y) ∙ three (down (x +ℤ y)) (up x) (up y)

pub sum_of_weights : (m n : ℕ) (z : ℤ) → pos (m + n) *ℤ z ≡ pos m *ℤ z +ℤ pos n *ℤ z
sum_of_weights m n z =
    same_in (pos (m + n) *ℤ z) (pos m *ℤ z +ℤ pos n *ℤ z)
    (omega (arith, parts (m + n) z, parts m z, parts n z, sum_is_lem (pos m *ℤ z) (pos n *ℤ z), add-mul m n (up z), add-mul m n (down z)))

pub weight_twice : (m n : ℕ) (z : ℤ) → pos (m * n) *ℤ z ≡ pos m *ℤ (pos n *ℤ z)
weight_twice m n z =
    same_in (pos (m * n) *ℤ z) (pos m *ℤ (pos n *ℤ z))
    (omega (arith, parts (m * n) z, parts m (pos n *ℤ z), ap (λ k. m * k) (parts n z).0, ap (λ k. m * k) (parts n z).1, mul_assoc m n (up z), mul_assoc m n (down z)))

-- the interpolant with the weights r and a along the first axis, s and b along the second, as a sum along the first axis of sums along the second
pub regrouped : (r a s b : ℕ) (g00 g10 g01 g11 : ℤ)
    → weighted (r * s) (a * s) (r * b) (a * b) g00 g10 g01 g11
    ≡ pos r *ℤ (pos s *ℤ g00 +ℤ pos b *ℤ g01) +ℤ pos a *ℤ (pos s *ℤ g10 +ℤ pos b *ℤ g11)
regrouped r a s b g00 g10 g01 g11 =
    (λ i. weight_twice r s g00 i +ℤ weight_twice a s g10 i +ℤ weight_twice r b g01 i +ℤ weight_twice a b g11 i)
    ∙ paired (pos r *ℤ (pos s *ℤ g00)) (pos a *ℤ (pos s *ℤ g10)) (pos r *ℤ (pos b *ℤ g01)) (pos a *ℤ (pos b *ℤ g11))
    ∙ sym (λ i. weight_of_sum r (pos s *ℤ g00) (pos b *ℤ g01) i +ℤ weight_of_sum a (pos s *ℤ g10) (pos b *ℤ g11) i)
  where
    paired : (w x y z : ℤ) → w +ℤ x +ℤ y +ℤ z ≡ (w +ℤ y) +ℤ (x +ℤ z)
    paired w x y z = omega (arith, ints)
