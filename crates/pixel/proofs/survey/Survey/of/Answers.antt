use Rattle.std.proofs.Common.{◌+◌, ◌≤◌, length, None, sym, ap, ◌∙◌, arith, rules}
use Rattle.std.proofs.lemmas.List.{length_push}
use Rattle.std.proofs.lemmas.Result.{err_from_is_err_and}
use Rattle.kind.specs.Meaning.{cell_declined}
use Rattle.pixel_theory.specs.Kind.{pixel}
use Rattle.pixel.specs.Pixels.{pixel_count, all_pixels, pixels_left}
use Rattle.pixel.proofs.Counting.{piece_count, length_more, declined_more, stays}
use Rattle.pixel.proofs.Listing.{next_given, all_given}
use Rattle.pixel.proofs.Places.{count_fits}
use Rattle.pixel.proofs.survey.Survey.of.Goals as goal

pub returns-in_err-read : goal.returns-in_err-read
returns-in_err-read g c =
    let b = g.S.Source.block c.args.source.now in
    let l = c.args.level in
    let start = ap pixels_left c.into_iter-at-iterator.ensures.into_iter_gives ∙ c.iter-at-items.ensures.answer ∙ ap all_pixels c.of-pixels.ensures.answer in
    let (below, at) = next_given b.sizes _ start c.loop-at.yielded _ c.next.new.self c.loop-at.yielded_by _ c.in-Some.at c.in-Some.is c.next.ensures.steps in
    let here = ap (cell_declined pixel b l) (sym at) ∙ c.in_err-read.ensures.answer in
    let e = err_from_is_err_and c.from_residual.result c.from_residual.ensures.1 in
    let within : length c.loop-at.yielded + 1 ≤ pixel_count b.sizes = omega (arith, below) in
    rw (e.1, e.2) (record { answer = stays b l _ (pixel_count b.sizes) _ within (declined_more b l _ _ c.loop-at.invariant.0 here) })

pub overflow_add-segments : goal.overflow_add-segments
overflow_add-segments g c =
    let b = g.S.Source.block c.args.source.now in
    let start = ap pixels_left c.into_iter-at-iterator.ensures.into_iter_gives ∙ c.iter-at-items.ensures.answer ∙ ap all_pixels c.of-pixels.ensures.answer in
    let (below, at) = next_given b.sizes _ start c.loop-at.yielded _ c.next.new.self c.loop-at.yielded_by _ c.in-Some.at c.in-Some.is c.next.ensures.steps in
    let few = rw c.of-pixels.ensures.answer at (count_fits c.of-pixels.result.sizes c.of-pixels.result.allowed) in
    record { fits = omega (arith, few, below, c.loop-at.invariant.2, c.count.ensures.few) }

pub loop-at-preserved : goal.loop-at-preserved
loop-at-preserved g c =
    let b = g.S.Source.block c.args.source.now in
    let l = c.args.level in
    let start = ap pixels_left c.into_iter-at-iterator.ensures.into_iter_gives ∙ c.iter-at-items.ensures.answer ∙ ap all_pixels c.of-pixels.ensures.answer in
    let (below, at) = next_given b.sizes _ start c.loop-at.yielded _ c.next.new.self c.loop-at.yielded_by _ c.in-Some.at c.in-Some.is c.next.ensures.steps in
    let read = c.in_ok-read.ensures.answer in
    let i = length c.loop-at.yielded in
    let here = ap (cell_declined pixel b l) (sym at) ∙ read.0 in
    let held = c.count.ensures.answer ∙ ap length read.1.cut_is ∙ sym (piece_count b l c.in-Some.at) ∙ ap (λ p. length (pixel.pieces b l p)) at in
    rw length_push (
      declined_more b l i None c.loop-at.invariant.0 here,
      omega (arith, length_more b l i, held, c.loop-at.invariant.1),
      omega (arith, c.loop-at.invariant.2, c.count.ensures.few),
    )

pub returns : goal.returns
returns g c =
    let b = g.S.Source.block c.args.source.now in
    let l = c.args.level in
    let start = ap pixels_left c.into_iter-at-iterator.ensures.into_iter_gives ∙ c.iter-at-items.ensures.answer ∙ ap all_pixels c.of-pixels.ensures.answer in
    let all = all_given b.sizes _ start c.loop-at.yielded _ c.next.new.self c.loop-at.yielded_by _ c.in-None.is c.next.ensures.steps in
    let (none, segments, _) = rw all at c.loop-at.invariant in
    record { answer = (none, record { planes = search rules; pixels = search rules; segments = segments }) }
