-- Single binary digits: what a flip does to them and to their count, and where the lowest stands.
use Rattle.std.proofs.Common.{◌≡◌, ℕ, zero, suc, ◌+◌, ◌*◌, ◌/◌, ◌%◌, ◌^◌, ◌<◌, false, eqb, ◌≢◌, sym, refl, ap, ◌∙◌, arith}
use Prim.Native.Nat.{differ}
use lib.Bits.{bit_xor, xor_step, xor_zero_r}
use lib.Count.{ones, ones_step, count_trailing_zeros, under}
use Rattle.std.proofs.lemmas.Nat.{shr-shr}
use Rattle.clipping.specs.Masks.{digit, flip}
use Rattle.clipping.proofs.Sets.{Lowest}

-- the digits of a half
pub digit_suc : (n k : ℕ) → digit n (suc k) ≡ digit (n / 2) k
digit_suc n k = let e : 2 ^ (1 + k) ≡ 2 ^ suc k = ap (λ m. 2 ^ m) (omega arith) in ap (λ m. n / m % 2) (sym e) ∙ ap (λ m. m % 2) (sym (shr-shr n 1 k))

pub digit_zero : (n : ℕ) → digit n 0 ≡ n % 2
digit_zero n = omega arith

differ_zero : (d : ℕ) → differ d 0 ≡ d
differ_zero zero = refl
differ_zero (suc d) = refl

differ_one : (d : ℕ) → d < 2 → differ d 1 + d ≡ 1
differ_one zero h = refl
differ_one (suc zero) h = refl
differ_one (suc (suc d)) h = absurd (omega arith)

-- one flip, by the lowest digit and the rest
flip_step_zero : (n : ℕ) → (flip n 0 / 2 ≡ n / 2) × (flip n 0 % 2 + n % 2 ≡ 1)
flip_step_zero n =
    let s = xor_step n 1 in
    let d = differ_one (n % 2) (omega arith) in
    let z = xor_zero_r (n / 2) in
    omega arith

flip_step_suc : (n k : ℕ) → (flip n (suc k) / 2 ≡ flip (n / 2) k) × (flip n (suc k) % 2 ≡ n % 2)
flip_step_suc n k =
    let s = xor_step n (2 ^ suc k) in
    let h : 2 ^ suc k / 2 ≡ 2 ^ k = omega arith in
    let o : 2 ^ suc k % 2 ≡ 0 = omega arith in
    let e : differ (n % 2) (2 ^ suc k % 2) ≡ n % 2 = ap (differ (n % 2)) o ∙ differ_zero (n % 2) in
    let f = ap (bit_xor (n / 2)) h in
    omega arith

-- the count of the digits
pub ones_flip : (n k : ℕ) → ones (flip n k) + 2 * digit n k ≡ ones n + 1
ones_flip n zero =
    let s = flip_step_zero n in
    let a = ones_step (flip n 0) in
    let b = ap ones s.0 in
    let c = ones_step n in
    let d = digit_zero n in
    omega arith
ones_flip n (suc k) =
    let s = flip_step_suc n k in
    let a = ones_step (flip n (suc k)) in
    let b = ap ones s.0 in
    let c = ones_step n in
    let d = digit_suc n k in
    let ih = ones_flip (n / 2) k in
    omega arith

-- the digits after a flip
pub digit_flip_same : (n k : ℕ) → digit (flip n k) k + digit n k ≡ 1
digit_flip_same n zero = let s = flip_step_zero n in let a = digit_zero (flip n 0) in let b = digit_zero n in omega arith
digit_flip_same n (suc k) =
    let s = flip_step_suc n k in
    let a = digit_suc (flip n (suc k)) k in
    let b = digit_suc n k in
    let c = ap (λ m. digit m k) s.0 in
    let ih = digit_flip_same (n / 2) k in
    omega arith

pub digit_flip_other : (n k j : ℕ) → j ≢ k → digit (flip n k) j ≡ digit n j
digit_flip_other n zero zero ne = absurd (ne refl)
digit_flip_other n zero (suc j) ne =
    let s = flip_step_zero n in digit_suc (flip n 0) j ∙ ap (λ m. digit m j) s.0 ∙ sym (digit_suc n j)
digit_flip_other n (suc k) zero ne =
    let s = flip_step_suc n k in digit_zero (flip n (suc k)) ∙ s.1 ∙ sym (digit_zero n)
digit_flip_other n (suc k) (suc j) ne =
    let s = flip_step_suc n k in
    digit_suc (flip n (suc k)) j ∙ ap (λ m. digit m j) s.0 ∙ digit_flip_other (n / 2) k j (λ e. ne (ap suc e)) ∙ sym (digit_suc n j)

-- the trailing zeros end at the lowest digit that is set
pub trailing_lowest : (k n : ℕ) → Lowest (λ j. eqb (digit n j) 1) k (count_trailing_zeros k n)
unfolding count_trailing_zeros
trailing_lowest zero n = record { most = omega arith; passes = λ h. absurd (omega arith); first = λ j h. absurd (omega arith) }
trailing_lowest (suc k) n = go (n % 2) refl (trailing_lowest k (n / 2))
  where
    t : ℕ
    t = count_trailing_zeros k (n / 2)

    go : (d : ℕ) → n % 2 ≡ d → Lowest (λ j. eqb (digit (n / 2) j) 1) k t → Lowest (λ j. eqb (digit n j) 1) (suc k) (under d t)
    go zero e w = record {
      most = let m = w.most in omega arith;
      passes = λ h. ap (λ m. eqb m 1) (digit_suc n t) ∙ w.passes (omega arith);
      first = low;
    }
      where
        low : (j : ℕ) → j < suc t → eqb (digit n j) 1 ≡ false
        low zero h = ap (λ m. eqb m 1) (digit_zero n ∙ e)
        low (suc j) h = ap (λ m. eqb m 1) (digit_suc n j) ∙ w.first j (omega arith)
    go (suc d) e w = record {
      most = omega arith;
      passes = λ h. ap (λ m. eqb m 1) (let z = digit_zero n in let f : digit n 0 ≡ 1 = omega arith in f);
      first = λ j h. absurd (omega arith);
    }
