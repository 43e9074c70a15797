use Rattle.surface.proofs.calls_answer.Goals as goal
use Rattle.surface.proofs.Changing.{changes, counted}
use Rattle.surface.proofs.Resending.{resent}
use Rattle.surface.proofs.Undoing.{undone}

pub returns : goal.returns
returns c = record { changed = changes; counted = counted; resent = resent; undone = undone }
