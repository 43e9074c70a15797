use Rattle.std.proofs.Common.{sym, ◌∙◌}
use Rattle.kind.proofs.Reading.{readable}
use Rattle.pixel_theory.specs.Kind.{pixel}
use Rattle.pixel_theory.specs.Numbers.{points_in}
use Rattle.pixel_theory.proofs.Numbering.{vertices_by_cut, pieces_by_cut}
use Rattle.pixel.proofs.Held.{vertices_held, numbers_held, borders_held}
use Rattle.pixel.proofs.shape.PixelKind.read.Goals as goal

pub returns : goal.returns
returns g c =
    let b = g.S.Source.block c.args.source.now in
    let l = c.args.level in
    let at = c.args.at in
    let k = c.in_ok-contour.contour in
    let read = c.in_ok-contour.ensures.answer in
    let r = readable pixel b l at read.0 in
    record {
      answer = (
        read.0,
        (
          c.vertices.ensures.answer ∙ vertices_held b l at k read.1 (points_in k.cut) ∙ sym (vertices_by_cut b l at r k.cut read.1.cut_is),
          numbers_held k.cut ∙ sym (pieces_by_cut b l at r k.cut read.1.cut_is),
          borders_held b l at k read.1,
        ),
      );
    }
