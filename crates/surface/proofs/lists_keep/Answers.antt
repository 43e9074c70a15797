use Rattle.surface.proofs.lists_keep.Goals as goal
use Rattle.surface.proofs.Numbers.{always_kept}

pub returns : goal.returns
returns c = record { kept = always_kept }
