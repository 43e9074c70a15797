-- The block that a packed block's bytes tell, and which bytes are declined.
use Rattle.std.specs.Prelude.{ℕ, ◌+◌, ◌-◌, ◌*◌, ◌/◌, ◌%◌, if◌then◌else◌, ◌&&◌, List, length, drop, pos, Some, None, Ok, Err, Option, ◌==◌, nat_lt}
use Rattle.block.specs.Bits.{field}
use Rattle.block.specs.Block.{Block}
use Rattle.block.specs.Extent.{sizes_of}
use Rattle.block.specs.Faults.{fresh}
use Rattle.block.specs.Lattice.{inside, index, count}
use Rattle.block.specs.Refusals.{Told, plain}
use Rattle.block.specs.declared.fault.Cause.TheVariants.{Outside}
use Rattle.block.specs.declared.lattice.Sizes.{Sizes}
use Rattle.block.specs.declared.packed.Packed.{Packed}

-- the header: 4 bits for the width less one, 10 for each size less one, 6 spare bits
abbrev pub header_width : List ℕ → ℕ
header_width bytes = field bytes 0 4 + 1

abbrev pub header_sizes : List ℕ → Sizes
header_sizes bytes = record { x = field bytes 4 10 + 1; y = field bytes 14 10 + 1; z = field bytes 24 10 + 1 }

abbrev pub header_spare : List ℕ → ℕ
header_spare bytes = field bytes 34 6

-- samples of w bits without gaps, in storage order
abbrev pub packed_block : Sizes → ℕ → List ℕ → Block
packed_block n w samples = record {
  sizes = n;
  at = λ p. if inside n p then Ok (pos (field samples (index n p * w) w)) else Err (fresh Outside p);
}

-- the first five bytes are the header and the rest are samples
abbrev pub block_of_bytes : List ℕ → Block
block_of_bytes bytes = packed_block (header_sizes bytes) (header_width bytes) (drop 5 bytes)

-- the block that a packed source means; its width is held less one, in four bits
abbrev pub packed_told : Packed → Block
packed_told s = packed_block (sizes_of s.extent) (s.width_less_one % 16 + 1) s.samples.now

-- the refusal of samples that take so many bits, if any: there are no more bytes than they need, and no bit behind them is set
abbrev pub samples_declined : ℕ → ℕ → List ℕ → Option Told
samples_declined spare used samples =
    if length samples == (used + 7) / 8 then (if spare == 0 && field samples used (8 * length samples - used) == 0 then None else Some (plain 3))
    else Some (plain 2)

-- the refusal of a packed block, if any
abbrev pub packed_declined : List ℕ → Option Told
packed_declined bytes =
    if nat_lt (length bytes) 5 then Some (plain 2)
    else samples_declined (header_spare bytes) (count (header_sizes bytes) * header_width bytes) (drop 5 bytes)
