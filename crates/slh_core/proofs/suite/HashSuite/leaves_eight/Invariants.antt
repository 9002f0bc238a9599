use Rattle.std.proofs.Common.{◌≡◌, ◌+◌, ◌*◌, ℕ, List, take}
use Rattle.slh_core.specs.Address.{address_bytes, fors_prf_type, fors_tree_type}
use Rattle.slh_core.specs.Bytes.{joined}
use Rattle.slh_core.specs.Costs.{fors_leaf_cost}
use Rattle.slh_core.proofs.suite.HashSuite.leaves_eight.Given as goal

-- the leaves so far, and their steps
abbrev pub invariant-loop-k : goal.invariant-loop-k
invariant-loop-k g l =
    let K = g.Self.HashSuite.keyed_suite l.keyed in
    let t = l.adrs.tree_adrs_low in
    let p = l.adrs.key_pair_adrs in
    let secret : ℕ → List ℕ = λ i. K.suite.prf K.seed (address_bytes 0 t fors_prf_type p 0 i) l.sk_seed in
    let leaf : ℕ → List ℕ = λ i. K.suite.f K.seed (address_bytes 0 t fors_tree_type p 0 i) (secret i) in
    record {
      leaves : take (l.k * l.n) l.out ≡ joined (λ k. leaf (l.first + k)) l.k;
      cost : l.steps ≡ l.initial.steps + l.k * fors_leaf_cost;
    }
