use Rattle.std.proofs.Common.{arith}
use Rattle.std.proofs.lemmas.Grind.{common_steps}
use Rattle.std.proofs.lemmas.List.{take_rest}
use Rattle.block.proofs.Fields.{first_five_field}
use Rattle.block.proofs.packed.Packed.new.Goals as goal

pub returns-in_err-check : goal.returns-in_err-check
returns-in_err-check c = grind (arith, common_steps, take_rest, first_five_field)

pub returns : goal.returns
returns c = grind (arith, common_steps, take_rest, first_five_field)
