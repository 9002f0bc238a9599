use Rattle.std.proofs.Common.{arith, ◌≡◌, ap, refl}
use Rattle.slh_core.specs.Costs.{xmss_pk_from_sig_bound}
use Rattle.slh_merkle.specs.Checking.{checked_message}
use Rattle.slh_merkle.proofs.CostSteps.{one_more}
use Rattle.slh_merkle.proofs.Layers.{tree_at-zero, tree_at-more, leaf_at-more, checked_message-more, part_fits}
use Rattle.slh_merkle.proofs.hypertree.ht_root.Goals as goal

pub loop-j-init : goal.loop-j-init
unfolding checked_message
loop-j-init g c =
    record {
      tree = tree_at-zero _ _;
      leaf = refl;
      below = c.requires.leaf;
      message = c.copy-message.ensures;
      cost = omega arith;
      rises = omega arith;
    }

pub piece-layer-requires : goal.piece-layer-requires
piece-layer-requires g c =
    part_fits c.loop-j.j g.P.HypertreeSizes.D c.layer_len-size.result _ (omega arith) (rw c.layer_len-size.ensures.value c.requires.whole)

pub xmss_pk_from_sig-message-requires-clause-idx : goal.xmss_pk_from_sig-message-requires-clause-idx
xmss_pk_from_sig-message-requires-clause-idx g c = c.loop-j.invariant.below

pub xmss_pk_from_sig-message-requires-clause-whole : goal.xmss_pk_from_sig-message-requires-clause-whole
xmss_pk_from_sig-message-requires-clause-whole g c = rw (c.piece-layer.ensures.len, c.layer_len-size.ensures.value, c.layer_sizes.ensures.signature_len) refl

pub returns : goal.returns
returns g c =
    let last : c.loop-j.j ≡ g.P.HypertreeSizes.D = omega arith in
    record {
      value = rw last at c.loop-j.invariant.message;
      bound = rw last at c.loop-j.invariant.cost;
      rises = c.loop-j.invariant.rises;
    }

pub loop-j-preserved : goal.loop-j-preserved
loop-j-preserved g c =
    let K = g.P.HashSuite.keyed_suite c.args.keyed.now in
    let hp = g.P.XmssSizes.H_PRIME in
    let size : K.n ≡ g.P.N.ArraySize.USIZE = ap (λ k. k.n) (g.met.P.HashSuite.keyed_suite_is c.args.keyed.now) in
    let i = c.loop-j.invariant in
    record {
      tree = rw (c.next_place.ensures.tree, c.H_PRIME-height.ensures, i.tree) (tree_at-more _ _ _);
      leaf = rw (c.next_place.ensures.leaf, c.H_PRIME-height.ensures, i.tree) (leaf_at-more hp c.args.idx_tree c.args.idx_leaf c.loop-j.j);
      below = rw (← c.H_PRIME-height.ensures) c.next_place.ensures.below;
      message = rw (c.xmss_pk_from_sig-message.ensures.value, c.piece-layer.ensures.value, c.tree_adrs_of-at.ensures, i.tree, i.leaf, i.message, c.layer_len-size.ensures.value, ← size) (checked_message-more K hp c.args.idx_tree c.args.idx_leaf c.args.sig.now c.args.m.now c.loop-j.j);
      cost = omega (arith, one_more c.loop-j.j (xmss_pk_from_sig_bound g.P.WotsSizes.WOTS_SIG_LEN hp), i.cost, c.xmss_pk_from_sig-message.ensures.bound);
      rises = omega (arith, i.rises, c.xmss_pk_from_sig-message.ensures.cost);
    }
