use Rattle.std.proofs.Common.{rules, arith, sym, ap, length}
use Rattle.pixel.proofs.Listing.{first_left, none_left}
use Rattle.pixel.proofs.pixels.IterIterator.next.Goals as goal

pub returns-in_err-at-clause-steps : goal.returns-in_err-at-clause-steps
returns-in_err-at-clause-steps c =
    let e = none_left _ _ (sym c.in_err-at.ensures.answer) in
    grind arith

pub returns-clause-steps : goal.returns-clause-steps
returns-clause-steps c = first_left _ _ _ (sym c.in_ok-at.ensures.answer)

pub returns-clause-goes : goal.returns-clause-goes
returns-clause-goes c =
    let f = ap length (first_left _ _ _ (sym c.in_ok-at.ensures.answer)) in
    record { on = λ _. (search rules, search rules, omega (arith, f)); keeps = search rules; rests = λ _. search rules }
