-- Where a voxel may lie.
use Rattle.std.specs.Prelude.{◌+◌, ◌^◌, ◌<◌}
use Rattle.block.specs.declared.lattice.Point.{Point}

-- a point whose next coordinates fit
pub record Near (p : Point) : Type 0 where
  pub x : p.x + 1 < 2 ^ 32
  pub y : p.y + 1 < 2 ^ 32
  pub z : p.z + 1 < 2 ^ 32
