use Rattle.std.proofs.Common.{◌≡◌, ◌+◌, ◌*◌, take}
use Rattle.slh_core.specs.Bytes.{joined}
use Rattle.slh_core.specs.Costs.{fors_leaf_cost}
use Rattle.slh_merkle.specs.Fors.{fors_leaf}
use Rattle.slh_merkle.proofs.fors.ForsTreeLeaves.write_eights.Given as goal

-- the leaves so far, and their steps
abbrev pub invariant-loop-g : goal.invariant-loop-g
invariant-loop-g g l =
    let K = g.P.HashSuite.keyed_suite l.keyed in
    let leaf = fors_leaf K l.sk_seed l.self.tree_adrs_low l.self.key_pair_adrs in
    record {
      leaves : take (l.g * l.size) l.out ≡ joined (λ k. leaf (l.first + k)) (8 * l.g);
      cost : l.steps ≡ l.initial.steps + 8 * l.g * fors_leaf_cost;
    }
