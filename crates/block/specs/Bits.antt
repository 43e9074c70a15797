-- Bit fields in a row of bytes, the most significant bit first.
use Rattle.std.specs.Prelude.{ℕ, zero, suc, ◌+◌, ◌-◌, ◌*◌, ◌/◌, ◌%◌, ◌^◌, List, [], ◌∷◌, slice_index}

-- the bit at a place; 0 past the end
unfoldable pub bit : List ℕ → ℕ → ℕ
bit bytes k = slice_index bytes (k / 8) / 2 ^ (7 - k % 8) % 2

-- the unsigned number in the n bits from a place on
unfoldable pub field : List ℕ → ℕ → ℕ → ℕ
field bytes start zero = 0
field bytes start (suc n) = 2 * field bytes start n + bit bytes (start + n)

-- how many bits a row of bytes has
abbrev pub width_of : List ℕ → ℕ
width_of [] = 0
width_of (b ∷ bs) = 8 + width_of bs

-- the number that a row of bytes makes up
abbrev pub number_of : List ℕ → ℕ
number_of [] = 0
number_of (b ∷ bs) = b * 2 ^ width_of bs + number_of bs

-- the five bytes from a place on
abbrev pub five : List ℕ → ℕ → List ℕ
five bytes at = slice_index bytes at ∷ slice_index bytes (at + 1) ∷ slice_index bytes (at + 2) ∷ slice_index bytes (at + 3) ∷ slice_index bytes (at + 4) ∷ []
