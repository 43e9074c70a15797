-- The count of pixels fits.
use Rattle.std.proofs.Common.{◌≡◌, ◌-◌, ◌*◌, ◌^◌, ◌≤◌, true, ◌&&◌, leb, arith}
use Rattle.std.proofs.lemmas.Nat.{mul-le}
use Rattle.std.proofs.lemmas.Bool.{and_parts, leb-true}
use Rattle.block.specs.Lattice.{longest, allowed, all_allowed}
use Rattle.block.specs.declared.lattice.Sizes.{Sizes}
use Rattle.pixel.specs.Pixels.{pixel_count}

pub count_fits : (n : Sizes) → all_allowed n ≡ true → pixel_count n ≤ 2 ^ 30
count_fits n h =
    let xy = and_parts (allowed n.x && allowed n.y) _ h in
    let x = leb-true _ _ (and_parts (leb 1 n.x) (leb n.x longest) (and_parts (allowed n.x) _ xy.0).0).1 in
    let y = leb-true _ _ (and_parts (leb 1 n.y) (leb n.y longest) (and_parts (allowed n.x) _ xy.0).1).1 in
    let z = leb-true _ _ (and_parts (leb 1 n.z) (leb n.z longest) xy.1).1 in
    mul-le (n.x - 1) ((n.y - 1) * n.z) 1024 1048576 (omega (arith, x)) (mul-le (n.y - 1) n.z 1024 1024 (omega (arith, y)) (omega (arith, z)))
