use Rattle.std.proofs.Common.{◌≡◌, ℕ, ◌+◌, ◌-◌, ◌*◌, ◌/◌, ◌^◌, ◌<◌, ◌≤◌, List, length, take}
use Rattle.slh_core.specs.Bytes.{joined, part}
use Rattle.slh_merkle.specs.Merkle.{merkle, sibling_of}
use Rattle.slh_merkle.proofs.subtree.hash_up_and_path.Given as goal

-- the nodes at a height, the siblings below it, and one step for each node of the levels above the
-- leaves
abbrev pub invariant-loop-h : goal.invariant-loop-h
invariant-loop-h g l =
    let n = g.P.N.ArraySize.USIZE in
    let K = g.P.HashSuite.keyed_suite l.keyed in
    let B = g.A.NodeAddress.place l.adrs in
    record {
      room : length l.nodes ≡ length l.fn.nodes;
      count : l.count ≡ 2 ^ (l.z - l.h);
      few : l.count ≤ 2 ^ l.z;
      values : (leaves : ℕ → List ℕ)
          → ((k : ℕ) → k < 2 ^ l.z → part n l.fn.nodes k ≡ leaves k)
          → (k : ℕ)
          → k < l.count
          → part n l.nodes k ≡ merkle K B leaves l.h k;
      path : (leaves : ℕ → List ℕ)
          → ((k : ℕ) → k < 2 ^ l.z → part n l.fn.nodes k ≡ leaves k)
          → take (l.h * l.n) l.path ≡ joined (λ z. merkle K B leaves z (sibling_of (l.y / 2 ^ z))) l.h;
      cost : l.steps + l.count ≡ l.fn.steps + 2 ^ l.z;
    }
