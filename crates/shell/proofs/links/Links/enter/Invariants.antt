use Rattle.std.proofs.Common.{◌≡◌}
use Rattle.cell.specs.Cuts.{segments_in, segments_left}
use Rattle.clipping.specs.Faces.{placed}
use Rattle.clipping.specs.Masks.{entered}
use Rattle.shell.specs.Table.{placed_of}
use Rattle.shell.proofs.links.Links.enter.Given as goal

abbrev pub invariant-loop-p : goal.invariant-loop-p
invariant-loop-p l =
    entered l.self.masks (placed (placed_of l.face) (segments_left l.p-iterator)) ≡ entered l.initial.self.masks (placed (placed_of l.face) (segments_in l.fn.cut))
