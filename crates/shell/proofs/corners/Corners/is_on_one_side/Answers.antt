use Rattle.std.proofs.Common.{sym, ap, ◌∙◌, arith}
use Rattle.shell.specs.Corners.{is_below}
use Rattle.shell.proofs.Heights.{all_one_side, corner_read}
use Rattle.shell.proofs.corners.Corners.is_on_one_side.Goals as goal

pub returns : goal.returns
returns c =
    let hs = c.args.self.now.heights in
    let first = ap is_below (corner_read hs 0 c.index-self-0.result (omega arith)) ∙ sym c.is_below.ensures.answer in
    record { answer = λ h k l. all_one_side hs c.is_below.result (sym c.all_on_side.ensures.answer ∙ h) k (omega arith) ∙ sym first }
