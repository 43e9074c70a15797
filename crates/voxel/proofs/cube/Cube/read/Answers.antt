use Rattle.std.proofs.Common.{◌≡◌, None, subst}
use Rattle.cell.specs.Corner.{corners_declined, HeightsAt}
use Rattle.voxel.proofs.Holding.{no_refusal}
use Rattle.voxel.proofs.cube.Cube.read.Goals as goal

pub unreachable-requires : goal.unreachable-requires
unreachable-requires g c =
    let b = g.S.Source.block c.args.source.now in
    let l = c.args.level in
    let hs = c.in_ok-heights.heights in
    let at = c.corners.ensures.answer in
    let read = c.in_ok-heights.ensures.answer in
    no_refusal b l c.args.at hs (subst (λ ps. HeightsAt b l ps hs) at read.1) (subst (λ ps. corners_declined b l ps ≡ None) at read.0) c.in_default.ensures.answer
