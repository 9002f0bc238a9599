use Rattle.std.proofs.Common.{◌≡◌, ◌+◌, ◌<◌, ◌≤◌, ◌++◌, length, arith, sym}
use Rattle.std.proofs.lemmas.Grind.{common_steps}
use Rattle.std.proofs.lemmas.Result.{on_ok_weaker, on_err_weaker, err_from_is_err_and}
use Rattle.block_buffer.proofs.Streams.{blocks_of_more, blocks_of_short, cut, part_first, part_none, rest_of_more, rest_of_short, takes_both, takes_nothing}
use Rattle.block_buffer.proofs.buffer.BlockBuffer.digest_blocks.Goals as goal

pub returns-then-input-size : goal.returns-then-input-size
returns-then-input-size g c =
    let low : 1 ≤ g.BS.ArraySize.USIZE = omega arith in
    let short : length (c.args.self.now ++ c.args.input.now) < g.BS.ArraySize.USIZE + g.K.BufferKind.WAITING = grind (arith, common_steps) in
    record {
      ok = rw (blocks_of_short _ _ low _ short) (takes_nothing _);
      rest = rw c.append.ensures (sym (rest_of_short _ _ low _ short));
      short = grind (arith, common_steps);
      waits = grind (arith, common_steps);
      refused = grind (arith, common_steps);
      empty = grind (arith, common_steps);
      cause = grind (arith, common_steps);
      never_falls = grind (arith, common_steps);
    }

pub digest_whole-requires : goal.digest_whole-requires
digest_whole-requires g c = grind (arith, common_steps)

pub returns-then-pos-eq0 : goal.returns-then-pos-eq0
returns-then-pos-eq0 g c = grind (arith, common_steps)

pub complete-requires : goal.complete-requires
complete-requires g c = grind (arith, common_steps)

pub returns-in_err-complete : goal.returns-in_err-complete
returns-in_err-complete g c = record {
  ok = grind (arith, common_steps);
  rest = grind (arith, common_steps);
  short = grind (arith, common_steps);
  waits = grind (arith, common_steps);
  refused =
      let p = err_from_is_err_and c.from_residual.result c.from_residual.ensures.1 in
      rw p.1 (part_none _ _ _ _ c.in_err-complete.ensures.refused);
  empty = grind (arith, common_steps);
  cause = grind (arith, common_steps);
  never_falls = grind (arith, common_steps);
}

pub digest_whole-requires-2 : goal.digest_whole-requires-2
digest_whole-requires-2 g c = grind (arith, common_steps)

pub returns : goal.returns
returns g c =
    let low : 1 ≤ g.BS.ArraySize.USIZE = omega arith in
    let full : length (c.args.self.now ++ c.split_at.result.0.now) ≡ g.BS.ArraySize.USIZE = grind (arith, common_steps) in
    let enough : g.K.BufferKind.WAITING ≤ length c.split_at.result.1.now = omega arith in
    let total = cut _ c.args.self.now _ _ _ c.split_at.ensures.front c.split_at.ensures.back in
    let blocks = blocks_of_more _ _ low _ _ full enough in
    let first = c.in_ok-complete.ensures.ok in
    record {
      ok = on_ok_weaker c.digest_whole-2.result (λ later. rw (total, blocks) (takes_both _ _ _ _ _ first later)) c.digest_whole-2.ensures.ok;
      rest = on_ok_weaker c.digest_whole-2.result (λ later. rw (total, rest_of_more _ _ low _ _ full enough) later) c.digest_whole-2.ensures.rest;
      short = grind (arith, common_steps);
      waits = grind (arith, common_steps);
      refused = on_err_weaker c.digest_whole-2.result (λ none. rw (total, blocks) (part_first _ _ _ _ _ _ full first none)) c.digest_whole-2.ensures.refused;
      empty = grind (arith, common_steps);
      cause = grind (arith, common_steps);
      never_falls = grind (arith, common_steps);
    }
