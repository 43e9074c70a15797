-- The product of two heights, as 64 bits hold it.
use Rattle.std.proofs.Common.{◌≡◌, suc, ◌^◌, ◌≤◌, ℤ, pos, negsuc, ◌*ℤ◌, nat_abs, ap, ◌∙◌, ap₂, arith, w64, to_z, of_z}
use Rattle.std.proofs.lemmas.Nat.{mul-le}
use Rattle.std.proofs.lemmas.Int.{ints}

pub product_small : (a b : ℤ) → nat_abs a ≤ 2 ^ 25 → nat_abs b ≤ 2 ^ 25 → nat_abs (a *ℤ b) ≤ 2 ^ 50
product_small (pos a) (pos b) ha hb = mul-le a b (2 ^ 25) (2 ^ 25) ha hb
product_small (pos a) (negsuc b) ha hb = omega (arith, ints, mul-le a (suc b) (2 ^ 25) (2 ^ 25) ha hb)
product_small (negsuc a) (pos b) ha hb = omega (arith, ints, mul-le (suc a) b (2 ^ 25) (2 ^ 25) ha hb)
product_small (negsuc a) (negsuc b) ha hb = mul-le (suc a) (suc b) (2 ^ 25) (2 ^ 25) ha hb

-- a small number comes back from its bits
back : (z : ℤ) → nat_abs z ≤ 2 ^ 50 → to_z w64 (of_z w64 z) ≡ z
back z h = omega (arith, ints)

-- the product as the code computes it from two numbers x and y that are the heights a and b
pub product_is : (a b x y : ℤ) → nat_abs a ≤ 2 ^ 25 → nat_abs b ≤ 2 ^ 25 → x ≡ a → y ≡ b → to_z w64 (of_z w64 (to_z w64 (of_z w64 x) *ℤ to_z w64 (of_z w64 y))) ≡ a *ℤ b
product_is a b x y ha hb ex ey =
    ap (λ z. to_z w64 (of_z w64 z))
    (ap₂ (λ u v. u *ℤ v) (ap (λ z. to_z w64 (of_z w64 z)) ex ∙ back a (omega arith)) (ap (λ z. to_z w64 (of_z w64 z)) ey ∙ back b (omega arith)))
    ∙ back (a *ℤ b) (product_small a b ha hb)
