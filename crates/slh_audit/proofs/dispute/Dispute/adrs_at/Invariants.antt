use Rattle.std.proofs.Common.{◌≡◌, ◌^◌, ◌<◌}
use Rattle.slh_merkle.specs.Hypertree.{leaf_at, tree_at}
use Rattle.slh_audit.proofs.dispute.Dispute.adrs_at.Given as goal

-- the place on the layers so far
abbrev pub invariant-loop : goal.invariant-loop
invariant-loop g l =
    let hp = g.P.XmssSizes.H_PRIME in
    record {
      tree : l.tree ≡ tree_at hp l.self.t l.counter;
      leaf : l.leaf ≡ leaf_at hp l.self.t l.self.l l.counter;
      below : l.leaf < 2 ^ hp;
    }
