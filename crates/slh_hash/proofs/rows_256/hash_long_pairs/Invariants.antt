use Rattle.std.proofs.Common.{◌≡◌, ◌+◌, ◌*◌, slice_index, take}
use Rattle.slh_core.specs.Bytes.{joined, part}
use Rattle.slh_hash.specs.Sha2.{tweaked_hash_256}
use Rattle.slh_hash.proofs.rows_256.hash_long_pairs.Given as goal

-- the hashes so far, and the steps
abbrev pub invariant-loop-k : goal.invariant-loop-k
invariant-loop-k g l =
    let n = g.N.ArraySize.USIZE in
    record {
      hashes : take (l.k * l.n) l.out ≡ joined (λ i. tweaked_hash_256 n l.keyed.pk_seed (g.A.RowAddress.numbered l.adrs (slice_index l.numbers i)) (part (2 * n) l.pairs i)) l.k;
      cost : l.steps ≡ l.initial.steps + l.k;
    }
