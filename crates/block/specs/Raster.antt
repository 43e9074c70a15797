-- The block that a row of 16-bit samples tells, and which rows are declined.
use Rattle.std.specs.Prelude.{ℕ, if◌then◌else◌, List, ℤ, pos, negsuc, Some, None, Ok, Err, Option, Result, ◌==◌, slice_index_or}
use Rattle.block.specs.Block.{Block}
use Rattle.block.specs.Extent.{sizes_of}
use Rattle.block.specs.Faults.{fresh}
use Rattle.block.specs.Lattice.{all_allowed, inside, index, count}
use Rattle.block.specs.Refusals.{Told, plain}
use Rattle.block.specs.declared.fault.Fault.{Fault}
use Rattle.block.specs.declared.fault.Cause.TheVariants.{Missing, Outside}
use Rattle.block.specs.declared.lattice.Point.{Point}
use Rattle.block.specs.declared.lattice.Sizes.{Sizes}
use Rattle.block.specs.declared.raster.Raster.{Raster}

-- -32,768 marks a missing sample
abbrev pub sample_or_missing : Point → ℤ → Result ℤ Fault
sample_or_missing p (pos n) = Ok (pos n)
sample_or_missing p (negsuc n) = if n == 32767 then Err (fresh Missing p) else Ok (negsuc n)

abbrev pub raster_block : Sizes → List ℤ → Block
raster_block n samples = record {
  sizes = n;
  at = λ p. if inside n p then sample_or_missing p (slice_index_or samples (index n p) (pos 0)) else Err (fresh Outside p);
}

-- the block that a raster means
abbrev pub raster_told : Raster → Block
raster_told s = raster_block (sizes_of s.extent) s.samples.now

-- the refusal of a raster with these sizes and so many samples, if any
abbrev pub raster_declined : Sizes → ℕ → Option Told
raster_declined n given = if all_allowed n then (if given == count n then None else Some (plain 2)) else Some (plain 1)
