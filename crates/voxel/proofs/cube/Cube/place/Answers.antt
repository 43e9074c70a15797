use Rattle.std.proofs.Common.{ap, ◌∙◌}
use Rattle.shell.specs.Corners.{by_corner}
use Rattle.voxel.proofs.Holding.{place_local}
use Rattle.voxel.proofs.cube.Cube.place.Goals as goal

pub returns : goal.returns
returns c =
    let s = c.args.self.now in
    record { answer = ap (λ v. v.place) c.vertex.ensures.answer ∙ place_local s.at (by_corner s.corners.heights) c.args.v c.requires }
