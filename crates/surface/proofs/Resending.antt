-- A held cell that is sent again is declined.
use Rattle.block.specs.Refusals.{plain}
use Rattle.surface.specs.Ledger.{take_cell, positions, after}
use Rattle.surface.specs.Changes.{Resent}
use Rattle.surface.proofs.Checks.{by_held}
use Rattle.surface.proofs.Decisions.{has_position_decides, same_sizes_decides}
use Rattle.surface.proofs.Runs.{always_sound, declined_call}

pub resent : Resent
resent o laws cs b c same h =
    let s = after o cs in
    declined_call o s (take_cell b c) (plain 8)
    (by_held o s b c
    ((same_sizes_decides b.sizes o.sizes).1 same)
    ((always_sound o laws cs).kept.cells c h)
    ((has_position_decides (positions s.held) c).1 h))
