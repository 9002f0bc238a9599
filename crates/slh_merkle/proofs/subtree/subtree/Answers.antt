use Rattle.std.proofs.Common.{ℕ, ◌≡◌, ◌+◌, ◌-◌, ◌*◌, ◌^◌, ◌≤◌, ◌∙◌, ap, arith}
use Rattle.std.proofs.lemmas.List.{length-replicate, length-take}
use Rattle.std.proofs.lemmas.Nat.{mul-le, pow_pos}
use Rattle.slh_merkle.proofs.CostSteps.{node_cost-leaves}
use Rattle.slh_merkle.proofs.TreehashSteps.{leaf_below_of}
use Rattle.slh_merkle.proofs.subtree.subtree.Goals as goal

pub index_below-first-requires : goal.index_below-first-requires
index_below-first-requires g c =
    let first = leaf_below_of c.args.i c.args.z g.A.Leaves.height g.A.Leaves.trees 0 c.requires.height c.requires.node (pow_pos c.args.z) in
    record {
      height = omega (arith, c.requires.low);
      fits = omega (arith, first, c.leaf_numbers.ensures.few);
    }

pub write_leaves-requires-clause-few : goal.write_leaves-requires-clause-few
write_leaves-requires-clause-few g c = c.row_len-count.ensures.few

pub write_leaves-requires-clause-inside : goal.write_leaves-requires-clause-inside
write_leaves-requires-clause-inside g c =
    let last = leaf_below_of c.args.i c.args.z g.A.Leaves.height g.A.Leaves.trees (2 ^ c.args.z - 1) c.requires.height c.requires.node (omega (arith, pow_pos c.args.z)) in
    omega (arith, last, pow_pos c.args.z, c.index_below-first.ensures, c.row_len-count.ensures.value, c.leaf_numbers.ensures.few)

pub write_leaves-requires-clause-room : goal.write_leaves-requires-clause-room
write_leaves-requires-clause-room g c =
    let n = g.P.N.ArraySize.USIZE in
    let count = c.row_len-count.result in
    let fits : count * n ≤ 64 * 32 = mul-le count n 64 32 (omega (arith, c.row_len-count.ensures.few)) (omega (arith, c.chain_sizes.ensures.n_high)) in
    rw c.row_size.ensures.value (omega (arith, fits, length-take {A = ℕ}, length-replicate {A = ℕ}))

pub hash_up-requires-clause-low : goal.hash_up-requires-clause-low
hash_up-requires-clause-low g c = c.requires.low

pub hash_up-requires-clause-indices : goal.hash_up-requires-clause-indices
hash_up-requires-clause-indices g c =
    let last = leaf_below_of c.args.i c.args.z g.A.Leaves.height g.A.Leaves.trees (2 ^ c.args.z - 1) c.requires.height c.requires.node (omega (arith, pow_pos c.args.z)) in
    omega (arith, last, pow_pos c.args.z, c.leaf_numbers.ensures.few)

pub hash_up-requires-clause-room : goal.hash_up-requires-clause-room
hash_up-requires-clause-room g c =
    let n = g.P.N.ArraySize.USIZE in
    let count = c.row_len-count.result in
    let fits : count * n ≤ 64 * 32 = mul-le count n 64 32 (omega (arith, c.row_len-count.ensures.few)) (omega (arith, c.chain_sizes.ensures.n_high)) in
    let long = rw c.row_size.ensures.value at c.write_leaves.auto.out in
    rw (← c.row_len-count.ensures.value) (omega (arith, long, fits, length-take {A = ℕ}, length-replicate {A = ℕ}))

pub part_of-requires-clause-small : goal.part_of-requires-clause-small
part_of-requires-clause-small g c = c.chain_sizes.ensures.n_high

pub part_of-requires-clause-fits : goal.part_of-requires-clause-fits
part_of-requires-clause-fits g c =
    let n = g.P.N.ArraySize.USIZE in
    let count = c.row_len-count.result in
    let one : (0 + 1) * n ≤ count * n = mul-le (0 + 1) n count n (omega (arith, pow_pos c.args.z, c.row_len-count.ensures.value)) (omega arith) in
    omega (arith, one, c.row_size.ensures.value, c.row_size.ensures.small, c.row_len-count.ensures.few, c.write_leaves.auto.out, c.hash_up.auto.nodes, length-take {A = ℕ}, length-replicate {A = ℕ})

pub returns : goal.returns
returns g c =
    let leaf = g.A.Leaves.leaf (g.P.HashSuite.keyed_suite c.args.keyed.now) c.args.sk_seed.now c.args.adrs.now in
    let made = rw c.row_len-count.ensures.value at c.write_leaves.ensures.cost in
    record {
      value = c.part_of.ensures ∙ c.hash_up.ensures.node leaf (λ k below.
          let place : c.index_below-first.result + k ≡ c.args.i * 2 ^ c.args.z + k = omega (arith, c.index_below-first.ensures) in
          c.write_leaves.ensures.each k (rw c.row_len-count.ensures.value below) ∙ ap leaf place);
      cost = node_cost-leaves c.args.steps.now g.A.Leaves.leaf_cost c.args.z c.write_leaves.new.steps c.hash_up.new.steps made c.hash_up.ensures.cost;
    }
