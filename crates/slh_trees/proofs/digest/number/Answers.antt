use Rattle.std.proofs.Common.{rules, arith, ◌<◌, refl}
use Rattle.std.proofs.lemmas.Int.Digits.{number_more}
use Rattle.slh_trees.proofs.Numbers.{byte_step, shifted_below}
use Rattle.slh_trees.proofs.digest.number.Goals as goal

pub overflow_mul-total : goal.overflow_mul-total
overflow_mul-total c =
    let small = shifted_below c.loop-byte.total c.loop-byte.byte-index c.loop-byte.invariant.small (omega arith) in
    search rules

pub loop-byte-preserved : goal.loop-byte-preserved
loop-byte-preserved c =
    let byte : c.from.result < 256 = rw c.from.ensures (let f = c.type_inv.bytes c.loop-byte.byte-index in search rules) in
    record {
      value = rw (number_more 256 c.args.bytes.now c.loop-byte.byte-index (omega arith), ← c.loop-byte.invariant.value, ← c.from.ensures) refl;
      small = byte_step c.loop-byte.total c.loop-byte.byte-index c.from.result c.loop-byte.invariant.small byte;
    }
