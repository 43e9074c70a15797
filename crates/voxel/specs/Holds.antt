-- A voxel that was read.
use Rattle.std.specs.Prelude.{◌≡◌}
use Rattle.block.specs.Block.{Block}
use Rattle.block.specs.declared.lattice.Point.{Point}
use Rattle.cell.specs.Corner.{HeightsAt}
use Rattle.cell.specs.declared.level.Level.{Level}
use Rattle.voxel_theory.specs.Voxel.{corners}
use Rattle.voxel.specs.declared.cube.Cube.{Cube}

-- what stands at the corners of the voxel at a position
pub record Holds (b : Block) (l : Level) (at : Point) (c : Cube) : Type 0 where
  pub place : c.at ≡ at
  pub heights : HeightsAt b l (corners at) c.corners.heights
