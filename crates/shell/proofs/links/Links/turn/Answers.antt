use Rattle.std.proofs.Common.{refl, arith}
use Rattle.clipping.proofs.Reading.{read_low, steps}
use Rattle.shell.proofs.links.Links.turn.Goals as goal

pub toggle-requires : goal.toggle-requires
toggle-requires c = (c.requires.low, (read_low c.args.self.now.masks _ c.args.v c.requires.ready c.requires.top c.requires.low refl).0)

pub toggle-requires-2 : goal.toggle-requires-2
toggle-requires-2 c =
    (c.requires.low, (read_low c.args.self.now.masks c.toggle.new.self.masks c.args.v c.requires.ready c.requires.top c.requires.low c.toggle.ensures).1)

pub toggle-requires-3 : goal.toggle-requires-3
toggle-requires-3 c =
    let low = read_low c.args.self.now.masks c.toggle.new.self.masks c.args.v c.requires.ready c.requires.top c.requires.low c.toggle.ensures in
    (omega arith, omega arith)

pub returns : goal.returns
returns c =
    steps c.args.self.now.masks c.toggle.new.self.masks c.toggle-2.new.self.masks c.toggle-3.new.self.masks c.args.v _ _
    c.requires.top c.requires.low refl c.toggle.ensures refl c.toggle-2.ensures c.toggle-3.ensures
