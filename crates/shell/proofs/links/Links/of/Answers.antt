use Rattle.std.proofs.Common.{arith}
use Rattle.cell.specs.Cuts.{segments_in}
use Rattle.shell.specs.Corners.{by_corner}
use Rattle.shell.proofs.Faces.{face_entered}
use Rattle.shell.proofs.links.Links.of.Goals as goal

pub loop-face-preserved : goal.loop-face-preserved
loop-face-preserved c = record {
  table = c.loop-face.invariant.table;
  so_far =
      face_entered c.loop-face.invariant.table c.loop-face.face-index c.face-item.result (omega arith)
      (by_corner c.args.corners.now.heights) c.loop-face.links.masks c.enter.new.self.masks (segments_in c.cut.result)
      c.loop-face.invariant.so_far c.enter.ensures c.cut.ensures.answer;
}
