use Rattle.std.proofs.lemmas.Grind.{common_steps}
use Rattle.std.proofs.Common.{rules, slice_index, arith}
use Rattle.slh_manifest.proofs.Places.{digest_part, rest_part}
use Rattle.slh_manifest.proofs.entry.front_entry.Goals as goal

pub returns-clause-value : goal.returns-clause-value
returns-clause-value c = record {
  whole = search rules;
  name = search rules;
  len = search rules;
  digest = digest_part c.args.bytes.now _ (slice_index c.args.bytes.now 0) c.in_ok-first_chunk.ensures.cases.same;
  rest = rest_part c.args.bytes.now (slice_index c.args.bytes.now 0);
}

pub returns-then-is_empty : goal.returns-then-is_empty
returns-then-is_empty c = grind (arith, common_steps)

pub returns-then-bytes-name_end : goal.returns-then-bytes-name_end
returns-then-bytes-name_end c = grind (arith, common_steps)

pub returns-in_err-first_chunk : goal.returns-in_err-first_chunk
returns-in_err-first_chunk c = grind (arith, common_steps)
