-- A voxel whose corners can be read is off the level.
use Rattle.std.proofs.Common.{◌≡◌, None}
use Rattle.std.proofs.lemmas.List.Elements.{All-get_or}
use Rattle.block.specs.Block.{Block}
use Rattle.block.specs.declared.lattice.Point.{Point}
use Rattle.cell.specs.Corner.{corners_declined}
use Rattle.cell.specs.declared.level.Level.{Level}
use Rattle.clipping.specs.Faces.{Off}
use Rattle.kind.proofs.Reading.{IsOff, all_off}
use Rattle.voxel_theory.specs.Voxel.{corners, heights}

pub off_level : (b : Block) (l : Level) (c : Point) → corners_declined b l (corners c) ≡ None → Off (heights b l c)
off_level b l c h k lk = All-get_or (IsOff b l) (corners c) k c lk (all_off b l (corners c) h)
