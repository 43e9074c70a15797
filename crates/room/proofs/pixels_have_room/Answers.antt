use Rattle.room.proofs.Rooms.{pixels}
use Rattle.room.proofs.pixels_have_room.Goals as goal

pub returns : goal.returns
returns c = record { room = pixels }
