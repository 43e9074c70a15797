use Rattle.cell.proofs.Heights.{level_limits, height_fits, answer_is, answer_small}
use Rattle.cell.proofs.level.Level.height_within.Goals as goal

pub overflow_sub-result : goal.overflow_sub-result
overflow_sub-result c =
    let level = level_limits c.args.self.now.p c.args.self.now.q c.args.self.now.allowed in
    height_fits c.args.self.now.p c.args.self.now.q c.args.sample level.0 level.1 c.requires.within

pub invariant_of-result : goal.invariant_of-result
invariant_of-result c =
    let level = level_limits c.args.self.now.p c.args.self.now.q c.args.self.now.allowed in
    record { small = answer_small c.args.self.now.p c.args.self.now.q c.args.sample level.0 level.1 c.requires.within }

pub returns : goal.returns
returns c =
    let level = level_limits c.args.self.now.p c.args.self.now.q c.args.self.now.allowed in
    record { answer = answer_is c.args.self.now.p c.args.self.now.q c.args.sample level.0 level.1 c.requires.within }
