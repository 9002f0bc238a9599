use Rattle.std.proofs.Common.{◌≡◌, ◌+◌, ◌*◌, [], slice_index_or, take}
use Rattle.slh_core.specs.Bytes.{joined}
use Rattle.slh_hash.proofs.rows_256.put_hashes.Given as goal

-- the hashes so far, and their steps
abbrev pub invariant-loop-k : goal.invariant-loop-k
invariant-loop-k g l = record {
  hashes : take (l.k * l.n) l.out ≡ joined (λ i. take g.N.ArraySize.USIZE (slice_index_or l.digests i [])) l.k;
  cost : l.steps ≡ l.initial.steps + l.k;
}
