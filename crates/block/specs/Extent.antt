-- The sizes that an extent means: ten bits each, and one more.
use Rattle.std.specs.Prelude.{◌+◌, ◌%◌}
use Rattle.block.specs.Lattice.{longest}
use Rattle.block.specs.declared.extent.Extent.{Extent}
use Rattle.block.specs.declared.lattice.Sizes.{Sizes}

abbrev pub sizes_of : Extent → Sizes
sizes_of e = record { x = e.x % longest + 1; y = e.y % longest + 1; z = e.z % longest + 1 }
