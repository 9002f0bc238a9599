use Rattle.std.proofs.Common.{arith, refl}
use Rattle.slh_core.specs.Costs.{wots_pk_cost}
use Rattle.slh_core.specs.Suite.{HasLength}
use Rattle.slh_merkle.proofs.Climbs.{climb-auth_path}
use Rattle.slh_merkle.proofs.CostSteps.{node_cost-path}
use Rattle.slh_merkle.proofs.xmss.xmss_sign_root.Goals as goal

pub write_auth_path-requires-clause-leaf : goal.write_auth_path-requires-clause-leaf
write_auth_path-requires-clause-leaf g c = omega (arith, c.requires.idx)

pub write_auth_path-requires-clause-height : goal.write_auth_path-requires-clause-height
write_auth_path-requires-clause-height g c = c.H_PRIME-height.ensures

pub write_auth_path-requires-clause-room : goal.write_auth_path-requires-clause-room
write_auth_path-requires-clause-room g c =
    let back = rw c.ends_len.ensures.value at c.split_at_mut-chains.ensures.back_len in
    rw c.H_PRIME-height.ensures (omega (arith, back, c.requires.room))

pub root_from_auth_path-requires-clause-few : goal.root_from_auth_path-requires-clause-few
root_from_auth_path-requires-clause-few g c = omega (arith, c.H_PRIME-height.ensures, c.tree_sizes.ensures.height_high)

pub root_from_auth_path-requires-clause-enough : goal.root_from_auth_path-requires-clause-enough
root_from_auth_path-requires-clause-enough g c =
    let back = rw c.ends_len.ensures.value at c.split_at_mut-chains.ensures.back_len in
    rw c.H_PRIME-height.ensures (omega (arith, back, c.requires.room, c.write_auth_path.auto.out))

pub returns : goal.returns
returns g c =
    let K = g.P.HashSuite.keyed_suite c.args.keyed.now in
    let same = g.met.P.HashSuite.keyed_suite_is c.args.keyed.now in
    let law : HasLength K.suite K.n = rw same (g.met.P.HashSuite.lengths c.tree_sizes.ensures.n_high) in
    let a = c.args.adrs.now in
    let written = rw (c.tree_adrs-place.ensures, c.H_PRIME-height.ensures) at c.write_auth_path.ensures.value in
    let path = rw c.H_PRIME-height.ensures at c.write_auth_path.ensures.cost in
    let climbed = rw c.H_PRIME-height.ensures at c.root_from_auth_path.ensures.cost in
    record {
      root = rw (c.root_from_auth_path.ensures.value, c.wots_sign_leaf-leaf.ensures.leaf, c.at_key_pair.ensures, written, c.tree_adrs-place.ensures, c.H_PRIME-height.ensures)
          (climb-auth_path K c.args.sk_seed.now g.P.XmssSizes.H_PRIME a.layer_adrs a.tree_adrs_low c.args.idx law c.requires.idx);
      value = rw (c.wots_sign_leaf-leaf.ensures.value, c.at_key_pair.ensures, written) refl;
      cost = omega (arith, node_cost-path (wots_pk_cost g.P.WotsSizes.WOTS_SIG_LEN) g.P.XmssSizes.H_PRIME, c.wots_sign_leaf-leaf.ensures.cost, path, climbed);
    }
