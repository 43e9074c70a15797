-- Where the level crosses a lattice edge.
use Rattle.std.specs.Prelude.{ℕ, ◌+◌, Bool, true, false, if◌then◌else◌, ℤ, Some, None, Option, unsigned_abs}
use Rattle.cell.specs.Level.{Sign, minus, none, plus, sign}
pub use Rattle.cell.specs.declared.crossing.Offset.{Offset}

-- an edge has a crossing exactly when the signs at its ends are opposite
abbrev pub opposite : Sign → Sign → Bool
opposite minus minus = false
opposite minus none = false
opposite minus plus = true
opposite none s = false
opposite plus minus = true
opposite plus none = false
opposite plus plus = false

-- the offset n/d
abbrev pub offset : ℕ → ℕ → Offset
offset n d = record { numerator = n; denominator = d }

-- where an edge is crossed, by the heights at its lower and its upper end: the sizes of the two are as the distances from them
abbrev pub along_edge : ℤ → ℤ → Offset
along_edge low high = offset (unsigned_abs low) (unsigned_abs low + unsigned_abs high)

-- the crossing of an edge
abbrev pub crossing_of : ℤ → ℤ → Option Offset
crossing_of low high = if opposite (sign low) (sign high) then Some (along_edge low high) else None
