use Rattle.std.proofs.Common.{arith}
use Rattle.std.proofs.lemmas.Grind.{common_steps}
use Rattle.hybrid_array.proofs.lending.with_part_mut.Goals as goal

pub split_at_mut-items-requires : goal.split_at_mut-items-requires
split_at_mut-items-requires g c = grind (arith, common_steps)

pub returns : goal.returns
returns g c =
    (c.write_by.new.items, rw (← c.split_at_mut-before.ensures.back, ← c.USIZE.ensures, ← c.split_at_mut-items.ensures.front) c.write_by.ensures, grind (arith, common_steps))
