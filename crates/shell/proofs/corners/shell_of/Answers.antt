use Rattle.std.proofs.Common.{None, Some, sym, ap, ◌∙◌}
use Rattle.std.proofs.lemmas.Bool.{cond-false}
use Rattle.shell.specs.Corners.{by_corner, meets_level}
use Rattle.shell.specs.Shell.{shell_of, shell_rule}
use Rattle.shell.proofs.Heights.{kept}
use Rattle.shell.proofs.corners.shell_of.Goals as goal

pub returns-clause-answer : goal.returns-clause-answer
returns-clause-answer c =
    let corners = c.in_ok-new.field-0 in
    let g = by_corner corners.heights in
    ap (λ s. Some s) c.shell.ensures.answer ∙ sym (cond-false (meets_level g) None (Some (shell_of g)) corners.off)
    ∙ ap (λ hs. shell_rule (by_corner hs)) (kept _ _ _ c.in_ok-new.ensures.answer)
