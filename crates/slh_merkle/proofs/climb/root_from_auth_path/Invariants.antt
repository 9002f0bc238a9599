use Rattle.std.proofs.Common.{◌≡◌, ◌+◌}
use Rattle.slh_merkle.specs.Merkle.{climb}
use Rattle.slh_merkle.proofs.climb.root_from_auth_path.Given as goal

-- the node above the leaf, and its steps
abbrev pub invariant-loop-z : goal.invariant-loop-z
invariant-loop-z g l =
    let K = g.P.HashSuite.keyed_suite l.keyed in
    record {
      value : l.node ≡ climb K (g.A.NodeAddress.place l.adrs) l.leaf l.idx l.path l.z;
      cost : l.steps ≡ l.initial.steps + l.z;
    }
