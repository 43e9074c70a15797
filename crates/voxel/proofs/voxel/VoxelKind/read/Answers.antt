use Rattle.std.proofs.Common.{ap, ◌∙◌}
use Rattle.shell.specs.Corners.{by_corner}
use Rattle.voxel.specs.Local.{borders_of}
use Rattle.voxel.proofs.Holding.{held}
use Rattle.voxel.proofs.voxel.VoxelKind.read.Goals as goal

pub returns : goal.returns
returns g c =
    let read = c.in_ok-read.ensures.answer in
    let shape = c.shape_of.ensures in
    let h = held (g.S.Source.block c.args.source.now) c.args.level c.args.at c.in_ok-read.field-0 read.0 read.1 in
    record { answer = (read.0, (shape.points ∙ h.0, shape.parts ∙ h.1, ap (λ cube. borders_of cube.at (by_corner cube.corners.heights)) shape.cube ∙ h.2)) }
