-- A level p/q, and the height of a point above it.
use Rattle.std.specs.Prelude.{ℕ, zero, suc, Bool, true, false, if◌then◌else◌, ◌&&◌, ℤ, pos, negsuc, ◌-ℤ◌, ◌*ℤ◌, Some, None, Option, nat_le, unsigned_abs}
use Rattle.block.specs.Refusals.{Told, plain}

-- the height of a point with a sample above the level p/q
abbrev pub height : ℤ → ℕ → ℤ → ℤ
height p q sample = pos q *ℤ sample -ℤ p

-- the side of the level on which a height lies
pub data Sign : Type 0 where
  minus : Sign
  none : Sign
  plus : Sign

abbrev pub sign : ℤ → Sign
sign (pos zero) = none
sign (pos (suc n)) = plus
sign (negsuc n) = minus

abbrev pub sign_is_none : Sign → Bool
sign_is_none minus = false
sign_is_none none = true
sign_is_none plus = false

-- the level meets a point where the height is 0
abbrev pub on_level : ℤ → Bool
on_level g = sign_is_none (sign g)

-- the greatest size of p, the greatest q, and the greatest size of a sample
abbrev pub most_p : ℕ
most_p = 16777216

abbrev pub most_q : ℕ
most_q = 256

abbrev pub most_sample : ℕ
most_sample = 65536

-- the limits
abbrev pub level_allowed : ℤ → ℕ → Bool
level_allowed p q = nat_le (unsigned_abs p) most_p && (nat_le 1 q && nat_le q most_q)

abbrev pub sample_allowed : ℤ → Bool
sample_allowed sample = nat_le (unsigned_abs sample) most_sample

-- the refusal of a level, if any
abbrev pub level_declined : ℤ → ℕ → Option Told
level_declined p q = if level_allowed p q then None else Some (plain 5)

-- a sample within the limit has a height, and no other has
abbrev pub height_rule : ℤ → ℕ → ℤ → Option ℤ
height_rule p q sample = if sample_allowed sample then Some (height p q sample) else None
