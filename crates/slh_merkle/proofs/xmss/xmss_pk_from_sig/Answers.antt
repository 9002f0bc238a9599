use Rattle.std.proofs.Common.{arith, ◌≡◌, ap, refl}
use Rattle.slh_merkle.specs.Checking.{checked_node}
use Rattle.slh_merkle.proofs.xmss.xmss_pk_from_sig.Goals as goal

pub root_from_auth_path-requires-clause-few : goal.root_from_auth_path-requires-clause-few
root_from_auth_path-requires-clause-few g c =
    omega (arith, c.H_PRIME-height.ensures, c.tree_sizes.ensures.height_high)

pub returns : goal.returns
unfolding checked_node
returns g c =
    let K = g.P.HashSuite.keyed_suite c.args.keyed.now in
    let size : K.n ≡ g.P.N.ArraySize.USIZE = ap (λ k. k.n) (g.met.P.HashSuite.keyed_suite_is c.args.keyed.now) in
    record {
      value = rw (c.root_from_auth_path.ensures.value, c.wots_pk_from_sig-leaf.ensures.value, c.at_key_pair.ensures, c.tree_adrs.ensures, c.H_PRIME-height.ensures, c.split_at.ensures.front, c.split_at.ensures.back, c.ends_len.ensures.value, c.tree_sizes.ensures.signature_len, size) refl;
      cost = omega (arith, c.wots_pk_from_sig-leaf.ensures.cost, rw c.H_PRIME-height.ensures at c.root_from_auth_path.ensures.cost);
      bound = omega (arith, c.wots_pk_from_sig-leaf.ensures.bound, rw c.H_PRIME-height.ensures at c.root_from_auth_path.ensures.cost);
    }
