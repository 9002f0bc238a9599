use Rattle.std.proofs.Common.{◌≡◌, ◌+◌, ◌*◌, ◌/◌, ◌^◌, ◌<◌, ℕ, slice_index}
use Rattle.slh_core.specs.Bytes.{joined}
use Rattle.slh_merkle.specs.Checking.{checked_fors_node}
use Rattle.slh_merkle.specs.Fors.{leaf_index}
use Rattle.slh_merkle.proofs.fors.climb_all.Given as goal

-- the node of each tree at a height, and its index
abbrev pub invariant-loop-z : goal.invariant-loop-z
invariant-loop-z g l =
    let K = g.P.HashSuite.keyed_suite l.keyed in
    let trees = g.P.ForsSizes.K in
    let a = g.P.ForsSizes.A in
    record {
      indices : (i : ℕ) → i < trees → slice_index l.indices i ≡ leaf_index a l.digits i / 2 ^ l.z;
      values : l.out ≡ joined (λ i. checked_fors_node K l.adrs.tree_adrs_low l.adrs.key_pair_adrs a l.sig l.digits i l.z) trees;
      cost : l.steps ≡ l.initial.steps + l.z * trees;
    }
