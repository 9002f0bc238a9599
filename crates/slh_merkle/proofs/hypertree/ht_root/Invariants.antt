use Rattle.std.proofs.Common.{◌≡◌, ◌+◌, ◌^◌, ◌<◌, ◌≤◌}
use Rattle.slh_core.specs.Costs.{ht_verify_bound}
use Rattle.slh_merkle.specs.Checking.{checked_message}
use Rattle.slh_merkle.specs.Hypertree.{leaf_at, tree_at}
use Rattle.slh_merkle.proofs.hypertree.ht_root.Given as goal

-- the root so far, and the place of the next layer
abbrev pub invariant-loop-j : goal.invariant-loop-j
invariant-loop-j g l =
    let K = g.P.HashSuite.keyed_suite l.keyed in
    let hp = g.P.XmssSizes.H_PRIME in
    record {
      tree : l.tree ≡ tree_at hp l.idx_tree l.j;
      leaf : l.leaf ≡ leaf_at hp l.idx_tree l.idx_leaf l.j;
      below : l.leaf < 2 ^ hp;
      message : l.message ≡ checked_message K hp l.idx_tree l.idx_leaf l.sig l.fn.m l.j;
      cost : l.steps ≤ l.initial.steps + ht_verify_bound g.P.WotsSizes.WOTS_SIG_LEN hp l.j;
      rises : l.initial.steps ≤ l.steps;
    }
