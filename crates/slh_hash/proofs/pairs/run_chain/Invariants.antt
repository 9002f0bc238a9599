use Rattle.std.proofs.Common.{◌≡◌, ℕ, ◌+◌, ◌<◌, List, take}
use Rattle.sha256_lanes.specs.Eight.{lane_bytes}
use Rattle.slh_hash.specs.Pairs.{IsRow}
use Rattle.slh_hash.proofs.PairRows.{left_at, value}
use Rattle.slh_hash.proofs.pairs.run_chain.Given as goal

-- the values after q steps, and the one that is left
abbrev pub invariant-loop-q : goal.invariant-loop-q
invariant-loop-q g l =
    let n = g.N.ArraySize.USIZE in
    let s = l.keyed.pk_seed in
    record {
      values : (sk : List ℕ) (j t i k : ℕ) → IsRow l.row n sk j t i → k < 8
          → take n (lane_bytes l.values k) ≡ value n s sk j t (i + k) l.c l.q;
      left : (sk : List ℕ) (j t i : ℕ) → IsRow l.row n sk j t i
          → l.place ≡ left_at n s sk j t (i + l.signer) l.c l.digit l.fn.place l.q;
    }
