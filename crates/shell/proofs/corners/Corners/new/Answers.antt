use Rattle.std.proofs.Common.{sym, ◌∙◌, arith}
use Rattle.std.proofs.lemmas.Bool.{cond-true}
use Rattle.shell.proofs.Heights.{meets_any}
use Rattle.shell.proofs.corners.Corners.new.Goals as goal

pub invariant_of-result : goal.invariant_of-result
invariant_of-result c = record { off = sym (meets_any c.args.heights (omega arith)) ∙ sym c.any_on_level.ensures.answer ∙ c.if-any_on_level.false }

pub returns-then-any_on_level : goal.returns-then-any_on_level
returns-then-any_on_level c = record { answer = sym (cond-true _ _ _ (sym (meets_any c.args.heights (omega arith)) ∙ sym c.any_on_level.ensures.answer ∙ c.if-any_on_level.true)) }
