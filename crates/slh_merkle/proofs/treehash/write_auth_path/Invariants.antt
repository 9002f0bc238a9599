use Rattle.std.proofs.Common.{◌≡◌, ◌+◌, ◌*◌, ◌/◌, ◌^◌, take}
use Rattle.slh_core.specs.Bytes.{joined}
use Rattle.slh_core.specs.Costs.{auth_path_cost}
use Rattle.slh_merkle.specs.Merkle.{merkle, sibling_of}
use Rattle.slh_merkle.proofs.treehash.write_auth_path.Given as goal

-- the siblings so far, and their steps
abbrev pub invariant-loop-z : goal.invariant-loop-z
invariant-loop-z g l =
    let K = g.P.HashSuite.keyed_suite l.keyed in
    let nodes = merkle K (g.A.NodeAddress.place l.adrs) (g.A.Leaves.leaf K l.sk_seed l.adrs) in
    record {
      values : take (l.z * l.n) l.out ≡ joined (λ z. nodes z (sibling_of (l.y / 2 ^ z))) l.z;
      cost : l.steps ≡ l.initial.steps + auth_path_cost g.A.Leaves.leaf_cost l.z;
    }
