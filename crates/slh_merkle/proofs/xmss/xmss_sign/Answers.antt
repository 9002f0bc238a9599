use Rattle.std.proofs.Common.{arith, refl}
use Rattle.slh_core.specs.Costs.{wots_pk_cost}
use Rattle.slh_merkle.proofs.CostSteps.{node_cost-path}
use Rattle.slh_merkle.proofs.xmss.xmss_sign.Goals as goal

pub write_auth_path-requires-clause-leaf : goal.write_auth_path-requires-clause-leaf
write_auth_path-requires-clause-leaf g c = omega (arith, c.requires.idx)

pub write_auth_path-requires-clause-height : goal.write_auth_path-requires-clause-height
write_auth_path-requires-clause-height g c = c.H_PRIME-height.ensures

pub write_auth_path-requires-clause-room : goal.write_auth_path-requires-clause-room
write_auth_path-requires-clause-room g c =
    let back = rw c.ends_len.ensures.value at c.split_at_mut-chains.ensures.back_len in
    rw c.H_PRIME-height.ensures (omega (arith, back, c.requires.room))

pub returns : goal.returns
returns g c =
    let path = rw c.H_PRIME-height.ensures at c.write_auth_path.ensures.cost in
    record {
      value = rw (c.wots_sign.ensures.value, c.at_key_pair.ensures, c.write_auth_path.ensures.value, c.tree_adrs-place.ensures, c.H_PRIME-height.ensures) refl;
      cost = omega (arith, c.wots_sign.ensures.cost, path);
      bound = omega (arith, node_cost-path (wots_pk_cost g.P.WotsSizes.WOTS_SIG_LEN) g.P.XmssSizes.H_PRIME, c.wots_sign.ensures.bound, path);
    }
