-- A bit field is a quotient and a remainder of the number that the bytes make up.
use Rattle.std.proofs.Common.{◌≡◌, ℕ, zero, suc, ◌+◌, ◌-◌, ◌*◌, ◌/◌, ◌%◌, ◌^◌, ◌<◌, ◌≤◌, List, [], ◌∷◌, get_or, sym, refl, ap, ◌∙◌, ⊎_elim, mul_left_comm, arith}
use native.Mathlib.Nat.{mul-add-div_right, pow-succ'}
use lib.Bits.{bit_and}
use Rattle.std.proofs.lemmas.Nat.{pow-add, pow_pos, shr-shr, shr_high, mul-le, mod-pow-add, one_shl, and_mask}
use Rattle.std.proofs.lemmas.Bool.{cases_lt}
use Rattle.block.specs.Bits.{bit, field, width_of, number_of, five}

abbrev pub Bytes : List ℕ → Type 0
Bytes [] = Unit {0}
Bytes (b ∷ bs) = (b < 256) × Bytes bs

pub word_below : (bs : List ℕ) → Bytes bs → number_of bs < 2 ^ width_of bs
word_below [] h = omega arith
word_below (b ∷ bs) h =
    let rest = word_below bs h.1 in
    let first = mul-le b (2 ^ width_of bs) 255 (2 ^ width_of bs) (omega (arith, h.0)) (omega arith) in
    omega (arith, pow-add 2 8 (width_of bs))

-- the bits of the first byte, and those of the rest
bit_first : (b : ℕ) (bs : List ℕ) (k : ℕ) → k < 8 → bit (b ∷ bs) k ≡ b / 2 ^ (7 - k) % 2
unfolding bit
bit_first b bs k h = grind arith

bit_next : (b : ℕ) (bs : List ℕ) (k : ℕ) → bit (b ∷ bs) (8 + k) ≡ bit bs k
unfolding bit
bit_next b bs k = grind arith

-- what stands left of a number's bits does not change one of them
low_bit : (b w m j : ℕ) → ((b * 2 ^ (m + suc j) + w) / 2 ^ m) % 2 ≡ w / 2 ^ m % 2
low_bit b w m j =
    let p : 2 ^ (m + suc j) ≡ 2 ^ m * 2 ^ suc j = pow-add 2 m (suc j) in
    let e : b * 2 ^ (m + suc j) ≡ (b * 2 ^ suc j) * 2 ^ m =
    ap (λ x. b * x) p ∙ mul_left_comm b (2 ^ m) (2 ^ suc j) ∙ native.Mathlib.Nat.mul_comm (2 ^ m) (b * 2 ^ suc j) in
    let d : (b * 2 ^ (m + suc j) + w) / 2 ^ m ≡ b * 2 ^ suc j + w / 2 ^ m =
    ap (λ x. (x + w) / 2 ^ m) e ∙ mul-add-div_right (pow_pos m) (b * 2 ^ suc j) w in
    let even : b * 2 ^ suc j ≡ 2 * (b * 2 ^ j) = ap (λ x. b * x) (pow-succ' 2 j) ∙ mul_left_comm b 2 (2 ^ j) in
    ap (λ x. x % 2) d ∙ (let f = even in omega arith)

first_bit : (b : ℕ) (bs : List ℕ) → Bytes bs → (k m : ℕ) → m + suc k ≡ 8 + width_of bs → k < 8 → bit (b ∷ bs) k ≡ number_of (b ∷ bs) / 2 ^ m % 2
first_bit b bs h k m e lt =
    let at : m ≡ width_of bs + (7 - k) = omega arith in
    let high : number_of (b ∷ bs) / 2 ^ width_of bs ≡ b = shr_high b (width_of bs) (number_of bs) (word_below bs h) in
    let down : number_of (b ∷ bs) / 2 ^ m ≡ b / 2 ^ (7 - k) =
    ap (λ n. number_of (b ∷ bs) / 2 ^ n) at ∙ sym (shr-shr (number_of (b ∷ bs)) (width_of bs) (7 - k)) ∙ ap (λ x. x / 2 ^ (7 - k)) high in
    bit_first b bs k lt ∙ sym (ap (λ x. x % 2) down)

bit_word : (bs : List ℕ) → Bytes bs → (k m : ℕ) → m + suc k ≡ width_of bs → bit bs k ≡ number_of bs / 2 ^ m % 2
bit_word [] h k m e = absurd (omega arith)
bit_word (b ∷ bs) h k m e =
    ⊎_elim
    (λ lt. first_bit b bs h.1 k m e lt)
    (λ le.
    let at : k ≡ 8 + (k - 8) = omega arith in
    let within : m + suc (k - 8) ≡ width_of bs = omega arith in
    ap (bit (b ∷ bs)) at ∙ bit_next b bs (k - 8) ∙ bit_word bs h.1 (k - 8) m within
    ∙ sym (ap (λ n. (b * 2 ^ n + number_of bs) / 2 ^ m % 2) (sym within) ∙ low_bit b (number_of bs) m (k - 8)))
    (cases_lt k 8)

-- a field, where m bits stand behind it
pub field_word : (bs : List ℕ) → Bytes bs → (start n m : ℕ) → start + n + m ≡ width_of bs → field bs start n ≡ number_of bs / 2 ^ m % 2 ^ n
unfolding field
field_word bs h start zero m e = omega arith
field_word bs h start (suc n) m e =
    let x = number_of bs / 2 ^ m in
    let up : number_of bs / 2 ^ (m + 1) ≡ x / 2 ^ 1 = sym (shr-shr (number_of bs) m 1) in
    let before = field_word bs h start n (m + 1) (omega arith) ∙ ap (λ y. y % 2 ^ n) up in
    let last = bit_word bs h (start + n) m (omega arith) in
    let split : x % 2 ^ suc n ≡ (x / 2 ^ 1 % 2 ^ n) * 2 ^ 1 + x % 2 ^ 1 = ap (λ y. x % 2 ^ y) (omega arith) ∙ mod-pow-add x n 1 in
    omega arith

pub field_below : (bs : List ℕ) (start n : ℕ) → field bs start n < 2 ^ n
unfolding field bit
field_below bs start zero = grind arith
field_below bs start (suc n) = grind (arith, pow-succ', field_below bs start n)

-- within five bytes, a field of the row is one of the five
five_at : (bytes : List ℕ) (k j : ℕ) → j < 5 → get_or (five bytes k) j 0 ≡ get_or bytes (k + j) 0
five_at bytes k j h = grind arith

five_bit : (bytes : List ℕ) (k i at : ℕ) → at ≡ 8 * k + i → i < 40 → bit bytes at ≡ bit (five bytes k) i
unfolding bit
five_bit bytes k i at e h = grind (arith, five_at)

five_field : (bytes : List ℕ) (k i at n : ℕ) → at ≡ 8 * k + i → i + n ≤ 40 → field bytes at n ≡ field (five bytes k) i n
unfolding field
five_field bytes k i at zero e h = refl
five_field bytes k i at (suc n) e h =
    let before = five_field bytes k i at n e (omega arith) in
    let last = five_bit bytes k (i + n) (at + n) (omega arith) (omega arith) in
    omega arith

-- the fields of a header of five bytes
pub first_five_field : (bytes : List ℕ) (i n : ℕ) → i + n ≤ 40 → field (five bytes 0) i n ≡ field bytes i n
first_five_field bytes i n h = sym (five_field bytes 0 i i n (omega arith) h)

-- a field by the number that its five bytes make up
pub field_of_five : (bytes : List ℕ) (start n m : ℕ) → Bytes (five bytes (start / 8)) → start % 8 + n + m ≡ 40
    → field bytes start n ≡ number_of (five bytes (start / 8)) / 2 ^ m % 2 ^ n
field_of_five bytes start n m small e =
    five_field bytes (start / 8) (start % 8) start n (omega arith) (omega arith)
    ∙ field_word (five bytes (start / 8)) small (start % 8) n m e

-- the lowest n bits, as the code masks them
pub masked : (x n : ℕ) → n ≤ 32 → bit_and x ((1 * 2 ^ n) % 2 ^ 64 - 1) ≡ x % 2 ^ n
masked x n h = ap (λ m. bit_and x (m - 1)) (one_shl n 64 (omega arith)) ∙ and_mask x n
