-- The vertex at which a set of segments is clipped next, as the code finds it among the masks.
use Rattle.std.specs.Prelude.{ℕ, List, count_ones, nat_eq, Option, position}
use Rattle.std.specs.Option.{option_or}

-- the lowest vertex on exactly n segments
abbrev pub lowest_on : List ℕ → ℕ → Option ℕ
lowest_on xs n = position (λ x. nat_eq (count_ones x) n) xs

-- the lowest on two, or else the lowest on four
abbrev pub apex : List ℕ → Option ℕ
apex xs = option_or (lowest_on xs 2) (lowest_on xs 4)
