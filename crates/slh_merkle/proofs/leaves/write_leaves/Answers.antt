use Rattle.std.proofs.Common.{arith, ◌≡◌, ◌∙◌, ◌+◌, ◌*◌, ◌/◌, ◌%◌, ap}
use Rattle.slh_core.specs.Bytes.{part}
use Rattle.slh_core.specs.Suite.{HasLength}
use Rattle.slh_core.proofs.Joins.{part-joined}
use Rattle.slh_merkle.proofs.CostSteps.{rows_cost}
use Rattle.slh_merkle.proofs.Rows.{eights_fit, in_eights, rows_joined}
use Rattle.slh_merkle.proofs.leaves.write_leaves.Goals as goal

pub split_at_mut-eights-requires : goal.split_at_mut-eights-requires
split_at_mut-eights-requires g c =
    rw (c.requires.room, c.USIZE.ensures) (eights_fit c.args.count g.P.N.ArraySize.USIZE)

pub write_rest-requires-clause-few : goal.write_rest-requires-clause-few
write_rest-requires-clause-few g c = omega arith

pub write_rest-requires-clause-inside : goal.write_rest-requires-clause-inside
write_rest-requires-clause-inside g c = omega (arith, c.requires.inside)

pub write_rest-requires-clause-room : goal.write_rest-requires-clause-room
write_rest-requires-clause-room g c =
    let n = g.P.N.ArraySize.USIZE in
    let back = rw c.USIZE.ensures at c.split_at_mut-eights.ensures.back_len in
    let all = in_eights c.args.count (c.args.count / 8) (c.args.count % 8) n (omega arith) in
    omega (arith, back, all, c.requires.room)

pub returns : goal.returns
returns g c =
    let K = g.P.HashSuite.keyed_suite c.args.keyed.now in
    let n = g.P.N.ArraySize.USIZE in
    let same = g.met.P.HashSuite.keyed_suite_is c.args.keyed.now in
    let size : K.n ≡ n = ap (λ k. k.n) same in
    let law : HasLength K.suite K.n = rw same (g.met.P.HashSuite.lengths c.chain_sizes.ensures.n_high) in
    let count = c.args.count in
    let first = c.args.first in
    let sk = c.args.sk_seed.now in
    let at = c.args.adrs.now in
    let leaf = g.A.Leaves.leaf K sk at in
    record {
      each = λ k below. ap (λ xs. part n xs k) (rw (c.write_eights.ensures.leaves, c.write_rest.ensures.leaves) (rows_joined leaf first (8 * (count / 8)) (count % 8) count (omega arith)))
          ∙ part-joined (λ q. leaf (first + q)) n count k (λ q. g.met.A.Leaves.leaf_length K sk at (first + q) law ∙ size) below;
      cost = c.write_rest.ensures.cost ∙ rw c.write_eights.ensures.cost (rows_cost c.args.steps.now (8 * (count / 8)) (count % 8) g.A.Leaves.leaf_cost count (omega arith));
    }
