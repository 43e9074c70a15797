use Rattle.std.proofs.Common.{◌≡◌, false, List, Some, None, sym, ap, ◌∙◌, subst}
use Rattle.std.proofs.lemmas.Bool.{cond-false}
use Rattle.cell.specs.Corners.{at_corners}
use Rattle.cell.specs.Face.{FaceSegment, face_segments, meets_level}
use Rattle.cell.specs.Interpolant.{Interpolated}
use Rattle.cell.proofs.Following.{follows}
use Rattle.cell.proofs.face.Face.cut.Goals as goal

pub returns-else-meets_level : goal.returns-else-meets_level
returns-else-meets_level c =
    let face = c.args.self.now in
    let segments = c.joined.ensures.answer in
    let off : at_corners meets_level face ≡ false = sym c.meets_level.ensures.answer ∙ c.if-meets_level.false in
    record {
      answer = ap Some segments ∙ sym (cond-false (at_corners meets_level face) None (Some (at_corners face_segments face)) off);
      follows = subst (λ (ss : List FaceSegment). at_corners Interpolated face ss) (sym segments) (follows face.g00.value face.g10.value face.g01.value face.g11.value off);
    }
