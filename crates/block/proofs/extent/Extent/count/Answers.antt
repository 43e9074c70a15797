use Rattle.std.proofs.Common.{arith}
use Rattle.block.specs.Formed.{extent_allowed}
use Rattle.block.proofs.Storage.{count_most}
use Rattle.block.proofs.extent.Extent.count.Goals as goal

pub returns-clause-small : goal.returns-clause-small
returns-clause-small c = grind (arith, count_most, extent_allowed)
