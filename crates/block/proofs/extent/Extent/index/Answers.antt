use Rattle.std.proofs.Common.{arith}
use Rattle.block.specs.Formed.{extent_allowed}
use Rattle.block.proofs.Storage.{index_below, index_small}
use Rattle.block.proofs.extent.Extent.index.Goals as goal

pub overflow_mul-result-2 : goal.overflow_mul-result-2
overflow_mul-result-2 c = grind (arith, index_small, extent_allowed)

pub overflow_add-result-2 : goal.overflow_add-result-2
overflow_add-result-2 c = grind (arith, index_small, extent_allowed)

pub returns : goal.returns
returns c = grind (arith, index_below, index_small, extent_allowed)
