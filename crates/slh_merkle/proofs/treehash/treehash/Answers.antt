use Rattle.std.proofs.Common.{rules, arith, ◌≡◌, ◌+◌, ◌-◌, ◌*◌, ◌^◌, ◌<◌, ◌≤◌, ◌∙◌, ap}
use Rattle.std.specs.Prelude.{count_ones}
use Rattle.std.proofs.lemmas.Nat.{one_shl, mul-le}
use Rattle.std.proofs.Math.Pow.{pow_mono}
use Rattle.slh_core.specs.Costs.{node_cost}
use Rattle.slh_merkle.specs.Merkle.{merkle}
use Rattle.slh_merkle.proofs.CostSteps.{node_cost-above}
use Rattle.slh_merkle.proofs.TreehashSteps.{HoldsNodes-none, HoldsNodes-all, leaf_below_of, ones-zero, ones-pow}
use Rattle.slh_merkle.proofs.treehash.treehash.Goals as goal

pub loop-q-init : goal.loop-q-init
loop-q-init g c = record {
  room = search rules;
  holds = HoldsNodes-none _ _ _ _ _;
  cost = omega (arith, ones-zero);
}

pub index_below-index-requires : goal.index_below-index-requires
index_below-index-requires g c =
    let base = c.min-base.result in
    let top = g.A.Leaves.height - base in
    let above = c.args.z - base in
    let within : above ≤ top = omega arith in
    let rest : top - above ≡ g.A.Leaves.height - c.args.z = omega arith in
    let below : c.loop-q.q < 2 ^ above = omega (arith, one_shl above 32 (omega arith)) in
    let inside = leaf_below_of c.args.i above top g.A.Leaves.trees c.loop-q.q within (rw rest c.requires.node) below in
    let fewer : 2 ^ top ≤ 2 ^ g.A.Leaves.height = pow_mono (let low : top ≤ g.A.Leaves.height = omega arith in low) in
    let most : g.A.Leaves.trees * 2 ^ top ≤ g.A.Leaves.trees * 2 ^ g.A.Leaves.height = mul-le g.A.Leaves.trees (2 ^ top) g.A.Leaves.trees (2 ^ g.A.Leaves.height) (omega arith) fewer in
    record {
      height = omega arith;
      fits = omega (arith, inside, most, c.leaf_numbers.ensures.few);
    }

pub subtree-node-requires-clause-low : goal.subtree-node-requires-clause-low
subtree-node-requires-clause-low g c = omega arith

pub subtree-node-requires-clause-height : goal.subtree-node-requires-clause-height
subtree-node-requires-clause-height g c = omega arith

pub subtree-node-requires-clause-node : goal.subtree-node-requires-clause-node
subtree-node-requires-clause-node g c =
    let base = c.min-base.result in
    let top = g.A.Leaves.height - base in
    let above = c.args.z - base in
    let within : above ≤ top = omega arith in
    let rest : top - above ≡ g.A.Leaves.height - c.args.z = omega arith in
    let below : c.loop-q.q < 2 ^ above = omega (arith, one_shl above 32 (omega arith)) in
    rw c.index_below-index.ensures (leaf_below_of c.args.i above top g.A.Leaves.trees c.loop-q.q within (rw rest c.requires.node) below)

pub returns : goal.returns
returns g c =
    let K = g.P.HashSuite.keyed_suite c.args.keyed.now in
    let nodes = merkle K (g.A.NodeAddress.place c.args.adrs.now) (g.A.Leaves.leaf K c.args.sk_seed.now c.args.adrs.now) in
    let base = c.min-base.result in
    let above = c.args.z - base in
    let all : c.loop-q.q ≡ 2 ^ above = omega (arith, one_shl above 32 (omega arith)) in
    let whole : base + above ≡ c.args.z = omega arith in
    let last : count_ones c.loop-q.q ≡ 1 = ap (λ b. count_ones b) all ∙ ones-pow above in
    let leaf = g.A.Leaves.leaf_cost in
    let total : c.loop-q.q * (node_cost leaf base + 1) ≡ node_cost leaf c.args.z + 1 = rw all (node_cost-above leaf base above ∙ ap (λ z. node_cost leaf z + 1) whole) in
    record {
      value = rw c.node_of.ensures (HoldsNodes-all g.P.N.ArraySize.USIZE (λ h. nodes (base + h)) above c.args.i c.loop-q.q c.loop-q.store all c.loop-q.invariant.holds
          ∙ ap (λ z. nodes z c.args.i) whole);
      cost = omega (arith, c.loop-q.invariant.cost);
    }
