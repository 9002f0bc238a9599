use Rattle.std.proofs.Common.{arith}
use Rattle.std.proofs.lemmas.Grind.{common_steps}
use Rattle.std.proofs.lemmas.Result.{on_ok_weaker, on_err_weaker}
use Rattle.block_buffer.proofs.Streams.{part_first, takes_both}
use Rattle.block_buffer.proofs.TwoBlocks.{length-filled, padded_twice}
use Rattle.block_buffer.proofs.padding.hand_padded.Goals as goal

pub hand_filled-requires : goal.hand_filled-requires
hand_filled-requires g c = grind (arith, common_steps)

pub returns-then-head-suffix : goal.returns-then-head-suffix
returns-then-head-suffix g c = grind (arith, common_steps)

pub hand_filled-requires-2 : goal.hand_filled-requires-2
hand_filled-requires-2 g c = grind (arith, common_steps)

pub hand_filled-requires-3 : goal.hand_filled-requires-3
hand_filled-requires-3 g c = grind (arith, common_steps)

pub returns-clause-padded : goal.returns-clause-padded
returns-clause-padded g c =
    let two = padded_twice g.BS.ArraySize.USIZE c.args.head.now c.args.suffix.now c.requires.head c.requires.suffix (omega arith) in
    let full = length-filled g.BS.ArraySize.USIZE c.args.head.now c.requires.head in
    record {
      ok = on_ok_weaker c.hand_filled-3.result (λ later. rw two (takes_both _ _ _ _ _ c.in_ok-hand_filled.ensures.ok later)) c.hand_filled-3.ensures.ok;
      refused = on_err_weaker c.hand_filled-3.result (λ none. rw two (part_first _ _ _ _ _ _ full c.in_ok-hand_filled.ensures.ok none)) c.hand_filled-3.ensures.refused;
    }
