use Rattle.std.proofs.Common.{arith}
use Rattle.std.proofs.lemmas.Grind.{common_steps}
use Rattle.std.proofs.lemmas.List.{take_rest}
use Rattle.block.proofs.Fields.{first_five_field}
use Rattle.job.proofs.Job.decode.Goals as goal

pub returns-then-header-ne0 : goal.returns-then-header-ne0
returns-then-header-ne0 c = grind (arith, common_steps, take_rest, first_five_field)

pub returns : goal.returns
returns c = grind (arith, common_steps, take_rest, first_five_field)
