use Rattle.std.proofs.Common.{◌≡◌, ℕ, ◌+◌, ◌-◌, ◌*◌, ◌^◌, ◌<◌, ◌≤◌, List, length}
use Rattle.slh_core.specs.Bytes.{part}
use Rattle.slh_merkle.specs.Merkle.{merkle}
use Rattle.slh_merkle.proofs.subtree.hash_up.Given as goal

-- the nodes at a height, one step for each of those above them
abbrev pub invariant-loop-h : goal.invariant-loop-h
invariant-loop-h g l =
    let n = g.P.N.ArraySize.USIZE in
    let K = g.P.HashSuite.keyed_suite l.keyed in
    let B = g.A.NodeAddress.place l.adrs in
    record {
      room : length l.nodes ≡ length l.fn.nodes;
      count : l.count ≡ 2 ^ (l.z - l.h);
      few : l.count ≤ 2 ^ l.z;
      values : (leaves : ℕ → List ℕ)
          → ((k : ℕ) → k < 2 ^ l.z → part n l.fn.nodes k ≡ leaves (l.i * 2 ^ l.z + k))
          → (k : ℕ)
          → k < l.count
          → part n l.nodes k ≡ merkle K B leaves l.h (l.i * l.count + k);
      cost : l.steps + l.count ≡ l.fn.steps + 2 ^ l.z;
    }
