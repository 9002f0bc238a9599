use Rattle.std.proofs.Common.{◌≡◌, ◌+◌, ◌*◌, length}
use Rattle.std.specs.Prelude.{count_ones}
use Rattle.slh_core.specs.Costs.{node_cost}
use Rattle.slh_merkle.specs.Merkle.{merkle}
use Rattle.slh_merkle.specs.Treehash.{HoldsNodes}
use Rattle.slh_merkle.specs.declared.treehash.TheConstants.{TREEHASH_LEN}
use Rattle.slh_merkle.proofs.treehash.treehash.Given as goal

-- the nodes that are finished after q subtrees, and their steps
abbrev pub invariant-loop-q : goal.invariant-loop-q
invariant-loop-q g l =
    let n = g.P.N.ArraySize.USIZE in
    let K = g.P.HashSuite.keyed_suite l.keyed in
    let leaves = g.A.Leaves.leaf K l.sk_seed l.adrs in
    record {
      room : length l.store ≡ TREEHASH_LEN;
      holds : HoldsNodes n (λ h. merkle K (g.A.NodeAddress.place l.adrs) leaves (l.base + h)) l.above l.i l.q l.store;
      cost : l.steps + count_ones l.q ≡ l.initial.steps + l.q * (node_cost g.A.Leaves.leaf_cost l.base + 1);
    }
