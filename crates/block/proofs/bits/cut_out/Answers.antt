use Rattle.std.proofs.Common.{◌-◌, ◌/◌, ◌%◌, arith, rules, pow_mono}
use Rattle.std.proofs.lemmas.Nat.{mod_below, pow_pos}
use Rattle.block.specs.Bits.{five}
use Rattle.block.proofs.Fields.{Bytes, field_of_five, field_below, masked}
use Rattle.block.proofs.bits.cut_out.Goals as goal

pub returns : goal.returns
returns c =
    let bytes = c.args.bytes.now in
    let start = c.args.start in
    let n = c.args.width in
    let small : Bytes (five bytes (start / 8)) = search rules in
    let same = field_of_five bytes start n (40 - start % 8 - n) small (omega arith) in
    grind (arith, masked, field_below)

pub overflow_cast-result-2 : goal.overflow_cast-result-2
overflow_cast-result-2 c = grind (arith, masked, mod_below, pow_pos, pow_mono)
