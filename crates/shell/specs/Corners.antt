-- The heights at a voxel's corners.
use Rattle.std.specs.Prelude.{◌≡◌, ℕ, ◌<◌, Bool, true, false, List, map, ℤ, pos, nat_lt, slice_index_or}
use Rattle.cell.specs.Level.{Sign, minus, none, plus, sign, on_level}
use Rattle.cell.specs.declared.level.Height.{Height}
use Rattle.clipping.specs.Faces.{corner_count}
use Rattle.clipping.specs.Clip.{lowest}

-- the height at a corner
abbrev pub by_corner : List Height → ℕ → ℤ
by_corner hs k = slice_index_or (map (λ h. h.value) hs) k (pos 0)

-- whether the level meets a corner
abbrev pub meets_level : (ℕ → ℤ) → Bool
meets_level g = nat_lt (lowest (λ k. on_level (g k)) corner_count) corner_count

-- no corner is on the level
abbrev pub AllOff : List Height → Type 0
AllOff hs = meets_level (by_corner hs) ≡ false

-- whether a height is below the level
abbrev pub is_minus : Sign → Bool
is_minus minus = true
is_minus none = false
is_minus plus = false

abbrev pub is_below : ℤ → Bool
is_below z = is_minus (sign z)

-- all corners are on the side of the first
abbrev pub OneSide : (ℕ → ℤ) → Type 0
OneSide g = (k : ℕ) → k < corner_count → is_below (g k) ≡ is_below (g 0)
