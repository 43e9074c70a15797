use Rattle.room.proofs.Rooms.{voxels}
use Rattle.room.proofs.voxels_have_room.Goals as goal

pub returns : goal.returns
returns c = record { room = voxels }
