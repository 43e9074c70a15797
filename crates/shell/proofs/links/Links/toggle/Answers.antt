use Rattle.std.proofs.lemmas.Nat.{one_shl}
use Rattle.std.proofs.Common.{arith}
use Rattle.clipping.proofs.Masks.{toggle_step}
use Rattle.shell.proofs.links.Links.toggle.Goals as goal

pub returns : goal.returns
returns c =
    toggle_step c.args.self.now.masks c.args.u c.args.v _ _ (one_shl c.args.v 32 (omega arith)) (one_shl c.args.u 32 (omega arith))
