-- The height of a sample is small, and 32 bits hold it and the product on the way to it.
use Rattle.std.proofs.Common.{◌≡◌, ℕ, suc, ◌^◌, ◌≤◌, true, ℤ, pos, negsuc, ◌-ℤ◌, ◌*ℤ◌, nat_abs, sym, ◌∙◌, subst, ap₂, arith, w32, SFits, to_z, of_z}
use Rattle.std.proofs.lemmas.Nat.{mul-le}
use Rattle.std.proofs.lemmas.Int.{ints, to_z-of_z, to_z_pos}
use Rattle.std.proofs.lemmas.Bool.{and_parts, leb-true}
use Rattle.cell.specs.Level.{level_allowed, height, most_p, most_q, most_sample}

-- what a level's limits say
pub level_limits : (p : ℤ) (q : ℕ) → level_allowed p q ≡ true → (nat_abs p ≤ most_p) × (q ≤ most_q)
level_limits p q h =
    let both = and_parts _ _ h in
    (leb-true (nat_abs p) most_p both.0, leb-true q most_q (and_parts _ _ both.1).1)

-- a small number comes back from its bits
back : (z : ℤ) → nat_abs z ≤ most_p → to_z w32 (of_z w32 z) ≡ z
back z h = omega (arith, ints)

-- a product's size
times_small : (q : ℕ) (f : ℤ) → q ≤ most_q → nat_abs f ≤ most_sample → nat_abs (pos q *ℤ f) ≤ 2 ^ 24
times_small q (pos n) hq hf = mul-le q n most_q most_sample hq hf
times_small q (negsuc n) hq hf = omega (arith, ints, mul-le q (suc n) most_q most_sample hq hf)

module _ (p : ℤ) (q : ℕ) (f : ℤ) (hp : nat_abs p ≤ most_p) (hq : q ≤ most_q) (hf : nat_abs f ≤ most_sample) where
  small : nat_abs (height p q f) ≤ 2 ^ 25
  small = omega (arith, ints, times_small q f hq hf)

  -- as the code computes them
  abbrev coded_times : ℤ
  coded_times = to_z w32 q *ℤ to_z w32 (of_z w32 f)

  abbrev coded_height : ℤ
  coded_height = to_z w32 (of_z w32 coded_times) -ℤ to_z w32 (of_z w32 p)

  times_is : coded_times ≡ pos q *ℤ f
  times_is = ap₂ (λ x y. x *ℤ y) (to_z_pos w32 q (omega arith)) (back f (omega arith))

  pub times_fits : SFits w32 coded_times
  times_fits = subst (SFits w32) (sym times_is) (omega (arith, ints, times_small q f hq hf))

  height_is : coded_height ≡ height p q f
  height_is = ap₂ (λ x y. x -ℤ y) (to_z-of_z w32 coded_times times_fits ∙ times_is) (back p hp)

  pub height_fits : SFits w32 coded_height
  height_fits = subst (SFits w32) (sym height_is) (omega (arith, ints, small))

  -- the answer, read from its bits
  pub answer_is : to_z w32 (of_z w32 coded_height) ≡ height p q f
  answer_is = to_z-of_z w32 coded_height height_fits ∙ height_is

  pub answer_small : nat_abs (to_z w32 (of_z w32 coded_height)) ≤ 2 ^ 25
  answer_small = subst (λ (z : ℤ). nat_abs z ≤ 2 ^ 25) (sym answer_is) small
