use Rattle.std.proofs.Common.{arith, ◌≡◌, ◌≤◌, ◌∙◌, ◌+◌, ap, refl, ℕ, List, length, slice_index}
use Rattle.std.proofs.lemmas.List.{length-take-le}
use Rattle.slh_core.specs.Address.{address_bytes, fors_prf_type, fors_tree_type}
use Rattle.slh_core.specs.Bytes.{joined, part}
use Rattle.slh_core.specs.Suite.{HasLength}
use Rattle.slh_core.proofs.Joins.{joined_same, part-joined}
use Rattle.slh_merkle.specs.Fors.{fors_secret, fors_leaf}
use Rattle.slh_merkle.proofs.fors.ForsTreeLeaves.write_rest.Goals as goal

pub returns : goal.returns
unfolding fors_leaf fors_secret
returns g c =
    let K = g.P.HashSuite.keyed_suite c.args.keyed.now in
    let n = g.P.N.ArraySize.USIZE in
    let law : HasLength K.suite n = rw (g.met.P.HashSuite.keyed_suite_is c.args.keyed.now) (g.met.P.HashSuite.lengths c.forest_sizes.ensures.n_high) in
    let numbers = c.number_from.new.numbers in
    let size : length numbers ≡ c.args.count = c.number_from.auto.numbers ∙ length-take-le c.args.count _ (let few : c.args.count ≤ 8 = omega (arith, c.requires.few) in few) in
    let secrets = c.prf_each.new.out in
    let from = c.prf_adrs.result in
    let at = c.at_node.result in
    let secret : ℕ → List ℕ = λ q. K.suite.prf K.seed (address_bytes 0 from.tree_adrs_low fors_prf_type from.key_pair_adrs 0 (slice_index numbers q)) c.args.sk_seed.now in
    let hash : ℕ → List ℕ = λ q. K.suite.f K.seed (address_bytes 0 at.tree_adrs_low fors_tree_type at.key_pair_adrs at.tree_height (slice_index numbers q)) (part n secrets q) in
    let made : secrets ≡ joined secret c.args.count = c.prf_each.ensures.value ∙ ap (joined secret) size in
    let hashed : c.f_each.new.values ≡ joined hash c.args.count = c.f_each.ensures.value ∙ ap (joined hash) size in
    record {
      leaves = hashed ∙ joined_same _ _ c.args.count (λ k below.
          let number : slice_index numbers k ≡ c.args.first + k = c.number_from.ensures k (omega arith) in
          let cut : part n secrets k ≡ secret k = ap (λ xs. part n xs k) made ∙ part-joined secret n c.args.count k (λ q. law.prf _ _ _) below in
          rw (c.at_node.ensures.row (slice_index numbers k), cut, c.prf_adrs.ensures, number) refl);
      cost = omega (arith, rw size at c.prf_each.ensures.step, rw size at c.f_each.ensures.step);
    }
