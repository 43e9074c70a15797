use Rattle.std.proofs.Common.{◌≡◌, ◌-◌, ◌≤◌, List, length}
use Rattle.clipping.specs.Faces.{Segment}
use Rattle.clipping.specs.Laws.{Tame}
use Rattle.clipping.specs.Masks.{Means}
use Rattle.shell.specs.Progress.{Progress}
use Rattle.shell.proofs.links.Links.clip.Given as goal

abbrev pub invariant-loop-v : goal.invariant-loop-v
invariant-loop-v l = record {
  long : length l.out ≡ 22;
  in_room : l.n ≤ 22;
  progress : (ss : List Segment) → Means l.initial.self.masks ss → Tame ss → Progress ss l.self.masks l.out l.n;
}

abbrev pub decreases-loop-v : goal.decreases-loop-v
decreases-loop-v l = 22 - l.n
