use Rattle.std.proofs.Common.{rules, arith, ◌+◌, ◌*◌, ◌^◌, ◌<◌, refl}
use Rattle.slh_merkle.proofs.TreehashSteps.{shifted_whole}
use Rattle.slh_merkle.proofs.subtree.index_below.Goals as goal

pub overflow_add-result : goal.overflow_add-result
overflow_add-result c =
    rw (shifted_whole c.args.i c.args.z c.args.q (omega arith))
    (let less : c.args.i * 2 ^ c.args.z + c.args.q < 4294967296 = omega arith in search rules)

pub returns : goal.returns
returns c = rw (shifted_whole c.args.i c.args.z c.args.q (omega arith)) refl
