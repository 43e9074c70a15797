-- No point of a window that is let through has a coordinate too large.
use Rattle.std.proofs.Common.{◌≡◌, None, arith}
use Rattle.std.proofs.lemmas.Bool.Decides.{nat_tests}
use Rattle.block.specs.Block.{Block, WellFormed}
use Rattle.block.specs.Lattice.{plus, plus_capped}
use Rattle.block.specs.Window.{shown, window_declined}
use Rattle.block.specs.declared.lattice.Point.{Point}
use Rattle.block.specs.declared.lattice.Sizes.{Sizes}

module _ (below : Block) (formed : WellFormed below) (o : Point) (n : Sizes) (let_through : window_declined below.sizes o n ≡ None) where
  same_answer : (p : Point) → (shown (plus_capped o) below n).at p ≡ (shown (plus o) below n).at p
  same_answer p = let few = formed.sizes_allowed in grind (arith, nat_tests)

  pub uncapped : shown (plus_capped o) below n ≡ shown (plus o) below n
  uncapped = λ i. record { sizes = n; at = λ p. same_answer p i }
