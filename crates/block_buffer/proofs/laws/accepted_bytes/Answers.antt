use Rattle.std.proofs.Common.{◌≡◌, length}
use Rattle.block_buffer.proofs.Serials.{serialized_parts}
use Rattle.block_buffer.proofs.laws.accepted_bytes.Goals as goal

pub returns-clause-given : goal.returns-clause-given
returns-clause-given g c = λ accepted.
    let total : length c.args.bytes.now ≡ g.S.ArraySize.USIZE = rw (← c.as_slice.ensures.value) c.as_slice.ensures.len in
    serialized_parts g.S.ArraySize.USIZE c.args.bytes.now total accepted
