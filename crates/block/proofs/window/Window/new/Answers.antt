use Rattle.std.proofs.Common.{◌≡◌, None, ap, ◌∙◌, arith}
use Rattle.std.proofs.lemmas.Bool.Decides.{nat_tests}
use Rattle.block.specs.Lattice.{plus_capped}
use Rattle.block.specs.Window.{shown, window_declined}
use Rattle.block.proofs.Windows.{uncapped}
use Rattle.block.proofs.window.Window.new.Goals as goal

pub unwrap-requires : goal.unwrap-requires
unwrap-requires g c = let few = (g.S.Source.formed c.args.below).sizes_allowed in grind (arith, nat_tests)

pub returns : goal.returns
returns g c =
    let below = g.S.Source.block c.args.below in
    let o = c.args.origin in
    let n = c.args.sizes in
    let let_through : window_declined below.sizes o n ≡ None = grind (arith, nat_tests) in
    let made = rw c.unwrap.ensures at c.new.ensures.answer in
    record {
      answer = (
        let_through,
        ap (shown (plus_capped o) below) made.1 ∙ uncapped below (g.S.Source.formed c.args.below) o n let_through,
      );
    }
