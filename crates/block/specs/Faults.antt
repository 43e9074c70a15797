-- What a fault tells.
use Rattle.std.specs.Prelude.{ℕ, ◌+◌, min}
use Rattle.block.specs.declared.lattice.Point.{Point}
use Rattle.block.specs.declared.fault.Cause.{Cause}
use Rattle.block.specs.declared.fault.Cause.TheVariants.{Missing, Outside}
use Rattle.block.specs.declared.fault.Fault.{Fault}

abbrev pub cause_number : Cause → ℕ
cause_number Missing = 1
cause_number Outside = 2

-- as the layer raises it in which it arises
abbrev pub fresh : Cause → Point → Fault
fresh c p = record { cause = c; point = p; layers = 0 }

-- as the next layer hands it up: its count is one more, up to 255
abbrev pub raised : Fault → Fault
raised f = record { cause = f.cause; point = f.point; layers = min (f.layers + 1) 255 }
