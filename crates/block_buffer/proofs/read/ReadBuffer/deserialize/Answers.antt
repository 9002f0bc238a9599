use Rattle.std.proofs.Common.{◌≡◌, drop, length, ◌∙◌, arith}
use Rattle.std.proofs.lemmas.Grind.{common_steps}
use Rattle.std.proofs.lemmas.List.{take_rest}
use Rattle.std.specs.Prelude.{slice_index}
use Rattle.block_buffer.specs.Serial.{IsReadSerialized}
use Rattle.block_buffer.proofs.Serials.{read_parts}
use Rattle.block_buffer.proofs.read.ReadBuffer.deserialize.Goals as goal

pub returns-clause-value : goal.returns-clause-value
returns-clause-value g c =
    let value = c.as_slice-bytes.ensures.value in
    let total : length c.args.buffer.now ≡ g.BS.ArraySize.USIZE = rw (← value) c.as_slice-bytes.ensures.len in
    let accepted : IsReadSerialized g.BS.ArraySize.USIZE c.as_slice-bytes.result.now = record {
      low = omega arith;
      high = omega arith;
      consumed = grind (arith, common_steps);
    } in
    let rest : c.holding.result ≡ drop (slice_index c.args.buffer.now 0) c.args.buffer.now = rw value at (c.holding.ensures ∙ take_rest c.as_slice-bytes.result.now (slice_index c.as_slice-bytes.result.now 0)) in
    rw rest (read_parts g.BS.ArraySize.USIZE c.args.buffer.now c.requires.low total (rw value at accepted))
