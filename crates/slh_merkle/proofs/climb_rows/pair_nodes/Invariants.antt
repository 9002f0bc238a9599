use Rattle.std.proofs.Common.{◌≡◌, ◌+◌, ◌*◌, ◌%◌, ◌<◌, ℕ, drop, slice_index}
use Rattle.std.specs.Prelude.{◌==◌, if◌then◌else◌}
use Rattle.slh_core.specs.Bytes.{part}
use Rattle.slh_merkle.proofs.climb_rows.pair_nodes.Given as goal

-- the pairs so far
abbrev pub invariant-loop-i : goal.invariant-loop-i
invariant-loop-i g l =
    let n = g.P.N.ArraySize.USIZE in
    let opened = part ((1 + g.P.ForsSizes.A) * n) l.sig in
    record {
      left : (k : ℕ) → k < l.i → part n l.pairs (2 * k) ≡ (if slice_index l.indices k % 2 == 0 then part n l.nodes k else part n (drop n (opened k)) l.z);
      right : (k : ℕ) → k < l.i → part n l.pairs (2 * k + 1) ≡ (if slice_index l.indices k % 2 == 0 then part n (drop n (opened k)) l.z else part n l.nodes k);
    }
