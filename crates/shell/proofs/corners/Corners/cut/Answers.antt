use Rattle.std.proofs.lemmas.Bool.{both_ways}
use Rattle.shell.proofs.Heights.{face_off, cut_read}
use Rattle.shell.proofs.corners.Corners.cut.Goals as goal

pub unreachable-requires : goal.unreachable-requires
unreachable-requires c =
    let s = c.args.self.now in
    both_ways _ (face_off s.heights s.off c.args.of.now c.face.result c.face.ensures.answer) c.in_default.ensures.follows

pub returns : goal.returns
returns c =
    let s = c.args.self.now in
    record { answer = cut_read s.heights s.off c.args.of.now c.face.result c.face.ensures.answer _ c.in-Some.ensures.answer }
