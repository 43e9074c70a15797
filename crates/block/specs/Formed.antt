-- The proofs, which the sources carry, that the blocks they mean are well formed.
use Rattle.std.specs.Prelude.{◌≡◌, ℕ, ◌+◌, ◌%◌, true}
use Rattle.std.proofs.Common.{arith}
use Rattle.std.proofs.lemmas.Bool.{and_from, le-leb, cond-false}
use Rattle.block.specs.Block.{Block, WellFormed}
use Rattle.block.specs.Extent.{sizes_of}
use Rattle.block.specs.Lattice.{longest, allowed, all_allowed}
use Rattle.block.specs.Packed.{packed_told}
use Rattle.block.specs.Raster.{raster_told}
use Rattle.block.specs.Window.{window_told}
use Rattle.block.specs.declared.extent.Extent.{Extent}
use Rattle.block.specs.declared.packed.Packed.{Packed}
use Rattle.block.specs.declared.raster.Raster.{Raster}
use Rattle.block.specs.declared.window.Window.{Window}

one_allowed : (n : ℕ) → allowed (n % longest + 1) ≡ true
one_allowed n = and_from _ _ (le-leb 1 (n % longest + 1) (omega arith)) (le-leb (n % longest + 1) longest (omega arith))

pub extent_allowed : (e : Extent) → all_allowed (sizes_of e) ≡ true
extent_allowed e = and_from _ _ (and_from _ _ (one_allowed e.x) (one_allowed e.y)) (one_allowed e.z)

pub raster_formed : (s : Raster) → WellFormed (raster_told s)
raster_formed s = record { sizes_allowed = extent_allowed s.extent; outside = λ p h. cond-false _ _ _ h }

pub packed_formed : (s : Packed) → WellFormed (packed_told s)
packed_formed s = record { sizes_allowed = extent_allowed s.extent; outside = λ p h. cond-false _ _ _ h }

pub window_formed : {S : Type 0} (below : S → Block) (w : Window S) → WellFormed (window_told below w)
window_formed below w = record { sizes_allowed = extent_allowed w.extent; outside = λ p h. cond-false _ _ _ h }
