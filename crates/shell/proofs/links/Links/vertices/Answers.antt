use Rattle.std.proofs.Common.{ltb, get_or, take, ◌∙◌, ap₂, arith}
use lib.Count.{ones}
use Rattle.std.proofs.lemmas.Bool.{lt-ltb, le-ltb}
use Rattle.clipping.proofs.Order.{gathered, passed}
use Rattle.shell.proofs.links.Links.vertices.Goals as goal
use Rattle.shell.proofs.links.Links.vertices.Goals.{then-mask-gt0, else-mask-gt0}

pub loop-v-preserved : goal.loop-v-preserved
loop-v-preserved c = elim c.if-mask-gt0.branch [
  | then-mask-gt0 w ↦ (
    ap₂ (λ n out. take n out) w.n-is w.out-is
        ∙ gathered (λ v. ltb 0 (ones (get_or c.args.self.now.masks v 0))) c.loop-v.out c.loop-v.n c.loop-v.v c.loop-v.invariant.0 c.loop-v-test.true
        (omega (arith, c.loop-v.invariant.1, c.loop-v.invariant.2)) (lt-ltb 0 (ones (get_or c.args.self.now.masks c.loop-v.v 0)) w.if-mask-gt0.true),
    omega (arith, w.n-is, c.loop-v.invariant.1),
    c.if-mask-gt0.array_long,
  )
  | else-mask-gt0 w ↦ (
    ap₂ (λ n out. take n out) w.n-is w.out-is
        ∙ passed (λ v. ltb 0 (ones (get_or c.args.self.now.masks v 0))) c.loop-v.out c.loop-v.n c.loop-v.v c.loop-v.invariant.0 c.loop-v-test.true
        (le-ltb 0 (ones (get_or c.args.self.now.masks c.loop-v.v 0)) w.if-mask-gt0.false),
    omega (arith, w.n-is, c.loop-v.invariant.1),
    c.if-mask-gt0.array_long,
  )
]
