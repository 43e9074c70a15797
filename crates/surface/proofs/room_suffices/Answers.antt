use Rattle.surface.proofs.room_suffices.Goals as goal
use Rattle.surface.proofs.Boxes.{box_bounds}
use Rattle.surface.proofs.Room.{enough_room}

pub returns : goal.returns
returns c = record { room = enough_room; cells = box_bounds }
