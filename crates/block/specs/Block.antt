-- A block: its sizes, and what stands at each lattice point, a sample or a fault.
use Rattle.std.specs.Prelude.{◌≡◌, true, false, ℤ, pos, negsuc, ◌≤ℤ◌, Ok, Err, Result}
use Rattle.block.specs.Faults.{fresh}
use Rattle.block.specs.Lattice.{all_allowed, inside}
use Rattle.block.specs.declared.fault.Cause.TheVariants.{Outside}
use Rattle.block.specs.declared.fault.Fault.{Fault}
use Rattle.block.specs.declared.lattice.Point.{Point}
use Rattle.block.specs.declared.lattice.Sizes.{Sizes}

pub record Block : Type 0 where
  pub sizes : Sizes
  pub at : Point → Result ℤ Fault

-- what every block that a source means keeps to
pub record WellFormed (b : Block) : Type 0 where
  pub sizes_allowed : all_allowed b.sizes ≡ true
  pub outside : (p : Point) → inside b.sizes p ≡ false → b.at p ≡ Err (fresh Outside p)

-- the limits of a sample
abbrev pub lowest : ℤ
lowest = negsuc 65535

abbrev pub highest : ℤ
highest = pos 65536

abbrev pub InRange : Result ℤ Fault → Type 0
InRange (Ok v) = (lowest ≤ℤ v) × (v ≤ℤ highest)
InRange (Err f) = Unit {0}
