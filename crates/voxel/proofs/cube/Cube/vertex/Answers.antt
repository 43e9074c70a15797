use Rattle.std.proofs.Common.{◌∙◌, arith}
use Rattle.shell.specs.Corners.{by_corner}
use Rattle.voxel.proofs.Locals.{centre_local}
use Rattle.voxel.proofs.cube.Cube.vertex.Goals as goal

pub returns-in_default : goal.returns-in_default
returns-in_default c =
    let s = c.args.self.now in
    record { answer = c.centre.ensures.answer ∙ centre_local s.at (by_corner s.corners.heights) c.args.v (omega arith) }
