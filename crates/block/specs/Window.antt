-- The block that a window shows of the block below.
use Rattle.std.specs.Prelude.{ℕ, ◌+◌, Bool, if◌then◌else◌, ◌&&◌, ℤ, Some, None, Ok, Err, Option, Result, nat_le}
use Rattle.block.specs.Block.{Block}
use Rattle.block.specs.Extent.{sizes_of}
use Rattle.block.specs.Faults.{fresh, raised}
use Rattle.block.specs.Lattice.{inside, plus, plus_capped}
use Rattle.block.specs.Refusals.{Told, plain}
use Rattle.block.specs.declared.fault.Cause.TheVariants.{Outside}
use Rattle.block.specs.declared.fault.Fault.{Fault}
use Rattle.block.specs.declared.lattice.Point.{Point}
use Rattle.block.specs.declared.lattice.Sizes.{Sizes}
use Rattle.block.specs.declared.window.Window.{Window}

-- a fault from below goes up whole, its count raised by one
abbrev pub passed_up : Result ℤ Fault → Result ℤ Fault
passed_up (Ok v) = Ok v
passed_up (Err f) = Err (raised f)

-- what is shown of a block where each point of the window has its point below
abbrev pub shown : (Point → Point) → Block → Sizes → Block
shown place below n = record {
  sizes = n;
  at = λ p. if inside n p then passed_up (below.at (place p)) else Err (fresh Outside p);
}

-- a point is the origin plus that point below
abbrev pub window_block : Point → Block → Sizes → Block
window_block o = shown (plus o)

-- the block that a window means, from what the source below means; no window that was let through reaches the largest coordinate
abbrev pub window_told : {S : Type 0} → (S → Block) → Window S → Block
window_told below w = shown (plus_capped w.origin) (below w.below) (sizes_of w.extent)

-- along one axis: the size is not 0, and the window ends within the block below
abbrev pub lies_within : ℕ → ℕ → ℕ → Bool
lies_within origin size below = nat_le 1 size && nat_le (origin + size) below

abbrev pub window_declined : Sizes → Point → Sizes → Option Told
window_declined m o n =
    if lies_within o.x n.x m.x && lies_within o.y n.y m.y && lies_within o.z n.z m.z then None else Some (plain 4)
