-- Where samples stand in storage order, and how many there are.
use Rattle.std.proofs.Common.{◌≡◌, ◌+◌, ◌*◌, ◌^◌, ◌<◌, ◌≤◌, true, arith}
use Rattle.std.proofs.lemmas.Bool.Decides.{nat_tests}
use Rattle.std.proofs.lemmas.Nat.{mul-le, mul-add-lt}
use Rattle.block.specs.Lattice.{inside, all_allowed, count, index}
use Rattle.block.specs.declared.lattice.Point.{Point}
use Rattle.block.specs.declared.lattice.Sizes.{Sizes}

pub count_most : (n : Sizes) → all_allowed n ≡ true → count n ≤ 2 ^ 30
count_most n h =
    let layer = mul-le n.y n.z 1024 1024 (grind (arith, nat_tests)) (grind (arith, nat_tests)) in
    mul-le n.x (n.y * n.z) 1024 1048576 (grind (arith, nat_tests)) layer

-- a point inside is one of as many as there are
pub index_below : (n : Sizes) (p : Point) → inside n p ≡ true → index n p < count n
index_below n p h =
    let layer = mul-add-lt p.z n.y p.y n.z (grind (arith, nat_tests)) (grind (arith, nat_tests)) in
    let all = mul-add-lt (p.y + n.y * p.z) n.x p.x (n.y * n.z) (grind arith) (grind (arith, nat_tests)) in
    grind arith

pub index_small : (n : Sizes) (p : Point) → all_allowed n ≡ true → inside n p ≡ true → index n p < 2 ^ 30
index_small n p few h =
    let below = index_below n p h in
    let most = count_most n few in
    omega arith
