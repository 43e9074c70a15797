use Rattle.std.proofs.Common.{◌≡◌, true, sym, subst}
use Rattle.block.specs.Lattice.{all_allowed}
use Rattle.pixel.proofs.pixels.Pixels.of.Goals as goal

pub invariant_of-result : goal.invariant_of-result
invariant_of-result g c = record {
  allowed = subst (λ n. all_allowed n ≡ true) (sym c.sizes.ensures.answer) (g.S.Source.formed c.args.source.now).sizes_allowed;
}
