use Rattle.std.proofs.Common.{◌^◌, ◌≤◌, ℤ, nat_abs, sym, subst, arith}
use Rattle.std.proofs.lemmas.Int.{ints}
use Rattle.cell.proofs.Products.{product_is, product_small}
use Rattle.cell.proofs.face.product.Goals as goal

pub returns : goal.returns
returns c =
    let a = c.args.one in
    let b = c.args.other in
    let is = product_is a.value b.value c.from.result c.from-2.result a.small b.small (omega (arith, ints)) (omega (arith, ints)) in
    record { answer = is; small = subst (λ (z : ℤ). nat_abs z ≤ 2 ^ 50) (sym is) (product_small a.value b.value a.small b.small) }
