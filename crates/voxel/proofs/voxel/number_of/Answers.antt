use Rattle.voxel.proofs.Locals.{rank_found, rank_none}
use Rattle.voxel.proofs.voxel.number_of.Goals as goal

pub returns-in-Some : goal.returns-in-Some
returns-in-Some c = record { answer = rank_found c.args.vertices.now c.args.v c.in-Some.i c.in-Some.ensures.answer }

pub returns-in-None : goal.returns-in-None
returns-in-None c = record { answer = rank_none c.args.vertices.now c.args.v c.in-None.ensures.answer }
