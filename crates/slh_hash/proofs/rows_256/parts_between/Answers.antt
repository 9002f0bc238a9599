use Rattle.std.proofs.Common.{refl}
use Rattle.slh_hash.proofs.Grouped.{length-parts}
use Rattle.slh_hash.proofs.rows_256.parts_between.Goals as goal

pub returns-clause-value : goal.returns-clause-value
returns-clause-value c = refl

pub returns-clause-len : goal.returns-clause-len
returns-clause-len c = length-parts c.args.width c.args.done c.args.end c.args.bytes.now c.requires.order c.requires.inside
