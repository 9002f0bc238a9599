use Rattle.std.proofs.Common.{arith, length, refl, ◌-◌}
use Rattle.sha512_lanes.proofs.Ending.{padded_is}
use Rattle.sha512_lanes.proofs.hashing.last_block.Goals as goal

pub returns : goal.returns
returns c =
    let rest = c.args.rest.now in
    padded_is 112 (127 - length rest) rest _ _ (omega (arith, c.requires)) (omega (arith, c.requires))
    (omega (arith, c.requires)) (omega arith) (omega (arith, c.requires))
    (rw (c.put_ended.ensures refl) at c.put_length.ensures)
