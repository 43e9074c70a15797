use Rattle.std.proofs.Common.{◌≡◌, ◌*◌, ◌≤◌, length, None}
use Rattle.pixel.specs.Pixels.{contours, contours_declined}
use Rattle.pixel.proofs.survey.Survey.of.Given as goal

abbrev pub invariant-loop-at : goal.invariant-loop-at
invariant-loop-at g l =
    let b = g.S.Source.block l.source in
    let i = length l.yielded in
    (contours_declined b l.level i ≡ None) × (l.segments ≡ length (contours b l.level i)) × (l.segments ≤ 4 * i)
