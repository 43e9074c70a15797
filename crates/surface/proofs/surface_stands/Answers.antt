use Rattle.surface.proofs.surface_stands.Goals as goal
use Rattle.surface.proofs.Completing.{theorem}
use Rattle.surface.proofs.Ordering.{order_free}

pub returns : goal.returns
returns c = record { stands = theorem; order_free = order_free }
