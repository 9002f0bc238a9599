use Rattle.std.proofs.Common.{rules, arith, ◌≡◌, ◌∙◌, ◌+◌, ◌-◌, ◌*◌, ◌<◌, ◌≤◌, [], length, refl}
use Rattle.std.proofs.lemmas.Nat.{mul-le}
use Rattle.std.proofs.lemmas.Slice.{take-put_mid}
use Rattle.slh_core.specs.Bytes.{joined}
use Rattle.slh_core.proofs.Joins.{joined_more}
use Rattle.slh_merkle.specs.Hypertree.{ht_sig, layer_signature}
use Rattle.slh_core.specs.Costs.{xmss_node_cost}
use Rattle.slh_merkle.proofs.CostSteps.{one_more}
use Rattle.slh_merkle.proofs.Layers.{tree_at-zero, tree_at-more, leaf_at-more, layer_message-more, part_fits}
use Rattle.slh_merkle.proofs.Rows.{length-cut, whole_front}
use Rattle.slh_merkle.proofs.hypertree.ht_sign.Goals as goal

pub loop-j-init : goal.loop-j-init
unfolding joined
loop-j-init g c =
    let none : 0 * c.layer_len-size.result ≡ 0 = omega arith in
    record {
      tree = tree_at-zero _ _;
      leaf = refl;
      below = c.requires.leaf;
      message = c.copy-message.ensures;
      values = rw none (refl {a = []});
      cost = omega arith;
    }

pub overflow_mul-layer : goal.overflow_mul-layer
overflow_mul-layer g c =
    let size = c.layer_len-size.result in
    let most = mul-le (c.loop-j.j + 1) size 65 4096 (omega (arith, c.layer_sizes.ensures.few_layers)) c.layer_len-size.ensures.small in
    let small : c.loop-j.j * size < 18446744073709551616 = omega (arith, most) in search rules

pub overflow_mul-layer-in-loop-j : goal.overflow_mul-layer-in-loop-j
overflow_mul-layer-in-loop-j g c =
    let size = c.layer_len-size.result in
    let most = mul-le (c.loop-j.j + 1) size 65 4096 (omega (arith, c.layer_sizes.ensures.few_layers)) c.layer_len-size.ensures.small in
    let small : (c.loop-j.j + 1) * size < 18446744073709551616 = omega (arith, most) in search rules

pub slice_bounds-layer-end : goal.slice_bounds-layer-end
slice_bounds-layer-end g c =
    let whole : length c.args.out.now ≡ g.P.HypertreeSizes.D * c.layer_len-size.result = rw c.layer_len-size.ensures.value c.requires.room in
    part_fits c.loop-j.j g.P.HypertreeSizes.D c.layer_len-size.result _ (omega arith) (c.loop-j.auto.out ∙ whole)

pub xmss_sign_root-message-requires-clause-idx : goal.xmss_sign_root-message-requires-clause-idx
xmss_sign_root-message-requires-clause-idx g c = c.loop-j.invariant.below

pub xmss_sign_root-message-requires-clause-room : goal.xmss_sign_root-message-requires-clause-room
xmss_sign_root-message-requires-clause-room g c =
    let at = c.loop-j.j in
    let size = c.layer_len-size.result in
    let whole : length c.args.out.now ≡ g.P.HypertreeSizes.D * size = rw c.layer_len-size.ensures.value c.requires.room in
    let next : (at + 1) * size ≡ at * size + size = omega arith in
    let each : size ≡ (g.P.WotsSizes.WOTS_SIG_LEN + g.P.XmssSizes.H_PRIME) * g.P.N.ArraySize.USIZE = rw (c.layer_len-size.ensures.value, c.layer_sizes.ensures.signature_len) refl in
    length-cut (at * size) ((at + 1) * size) size c.loop-j.out next (part_fits at g.P.HypertreeSizes.D size _ (omega arith) (c.loop-j.auto.out ∙ whole)) ∙ each

pub loop-j-preserved : goal.loop-j-preserved
unfolding layer_signature
loop-j-preserved g c =
    let K = g.P.HashSuite.keyed_suite c.args.keyed.now in
    let hp = g.P.XmssSizes.H_PRIME in
    let i = c.loop-j.invariant in
    let size = c.layer_len-size.result in
    let whole : length c.args.out.now ≡ g.P.HypertreeSizes.D * size = rw c.layer_len-size.ensures.value c.requires.room in
    let fits : (c.loop-j.j + 1) * size ≤ length c.args.out.now = part_fits c.loop-j.j g.P.HypertreeSizes.D size (length c.args.out.now) (omega arith) whole in
    let next : (c.loop-j.j + 1) * size ≡ c.loop-j.j * size + length c.xmss_sign_root-message.new.out = omega arith in
    record {
      tree = rw (c.next_place.ensures.tree, c.H_PRIME-height.ensures, i.tree) (tree_at-more _ _ _);
      leaf = rw (c.next_place.ensures.leaf, c.H_PRIME-height.ensures, i.tree) (leaf_at-more hp c.args.idx_tree c.args.idx_leaf c.loop-j.j);
      below = rw (← c.H_PRIME-height.ensures) c.next_place.ensures.below;
      message = rw (c.xmss_sign_root-message.ensures.root, c.tree_adrs_of-at.ensures, i.tree) (layer_message-more K hp c.args.sk_seed.now c.args.idx_tree c.args.idx_leaf c.args.m.now c.loop-j.j);
      values = rw (take-put_mid (c.loop-j.j * size) ((c.loop-j.j + 1) * size - c.loop-j.j * size) c.loop-j.out c.xmss_sign_root-message.new.out ((c.loop-j.j + 1) * size) next (omega arith), i.values, joined_more, c.xmss_sign_root-message.ensures.value, c.tree_adrs_of-at.ensures, i.tree, i.leaf, i.message) refl;
      cost = omega (arith, one_more c.loop-j.j (xmss_node_cost g.P.WotsSizes.WOTS_SIG_LEN hp), i.cost, c.xmss_sign_root-message.ensures.cost);
    }

pub returns : goal.returns
unfolding ht_sig
returns g c =
    let d = g.P.HypertreeSizes.D in
    let size = c.layer_len-size.result in
    let last : c.loop-j.j ≡ d = omega arith in
    let whole : length c.loop-j.out ≡ d * size = rw c.layer_len-size.ensures.value (c.loop-j.auto.out ∙ c.requires.room) in
    record {
      value = rw last at (whole_front size d c.loop-j.j c.loop-j.out _ last whole c.loop-j.invariant.values);
      cost = rw last at c.loop-j.invariant.cost;
    }
