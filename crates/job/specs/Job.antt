-- What the bytes of a job say, and which bytes are declined.
use Rattle.std.specs.Prelude.{◌≡◌, ℕ, suc, ◌+◌, ◌-◌, ◌^◌, if◌then◌else◌, List, length, drop, ℤ, pos, negsuc, Some, None, Option, ◌==◌, nat_lt}
use Rattle.block.specs.Bits.{field}
use Rattle.block.specs.Packed.{block_of_bytes, packed_told, packed_declined}
use Rattle.block.specs.Refusals.{Told, plain, or_else}
use Rattle.job.specs.declared.CellKind.{CellKind}
use Rattle.job.specs.declared.CellKind.TheVariants.{Pixel, Voxel}
use Rattle.job.specs.declared.Job.{Job}

-- the header's bit fields: the kind, 1 for voxels; p in 26 bits; q less one in 8; five spare bits
abbrev pub kind_of : ℕ → CellKind
kind_of bit = if bit == 1 then Voxel else Pixel

abbrev pub job_kind : List ℕ → CellKind
job_kind bytes = kind_of (field bytes 0 1)

-- a number of w bits in two's complement
abbrev pub twos_complement : ℕ → ℕ → ℤ
twos_complement w n = if nat_lt n (2 ^ (w - 1)) then pos n else negsuc (2 ^ w - suc n)

abbrev pub job_p : List ℕ → ℤ
job_p bytes = twos_complement 26 (field bytes 1 26)

abbrev pub job_q : List ℕ → ℕ
job_q bytes = field bytes 27 8 + 1

abbrev pub job_spare : List ℕ → ℕ
job_spare bytes = field bytes 35 5

-- a packed block follows the five bytes of the header
pub record Decodes (bytes : List ℕ) (j : Job) : Type 0 where
  pub kind : j.kind ≡ job_kind bytes
  pub p : j.p ≡ job_p bytes
  pub q : j.q ≡ job_q bytes
  pub block : packed_told j.block ≡ block_of_bytes (drop 5 bytes)

-- the refusal of a job, if any: a length that is wrong anywhere comes before a spare bit anywhere
abbrev pub job_declined : List ℕ → Option Told
job_declined bytes =
    if nat_lt 1024 (length bytes) then Some (plain 2)
    else if nat_lt (length bytes) 5 then Some (plain 2)
    else or_else (packed_declined (drop 5 bytes)) (if job_spare bytes == 0 then None else Some (plain 3))
