use Rattle.std.proofs.Common.{◌≡◌, ◌+◌, ◌*◌, ◌^◌, ◌<◌, take}
use Rattle.slh_core.specs.Bytes.{joined}
use Rattle.slh_core.specs.Costs.{ht_sign_cost}
use Rattle.slh_merkle.specs.Hypertree.{layer_signature, layer_message, leaf_at, tree_at}
use Rattle.slh_merkle.proofs.hypertree.ht_sign.Given as goal

-- the layers so far, and the place of the next one
abbrev pub invariant-loop-j : goal.invariant-loop-j
invariant-loop-j g l =
    let K = g.P.HashSuite.keyed_suite l.keyed in
    let hp = g.P.XmssSizes.H_PRIME in
    record {
      tree : l.tree ≡ tree_at hp l.idx_tree l.j;
      leaf : l.leaf ≡ leaf_at hp l.idx_tree l.idx_leaf l.j;
      below : l.leaf < 2 ^ hp;
      message : l.message ≡ layer_message K hp l.sk_seed l.idx_tree l.idx_leaf l.fn.m l.j;
      values : take (l.j * l.size) l.out ≡ joined (layer_signature K hp l.sk_seed l.idx_tree l.idx_leaf l.fn.m) l.j;
      cost : l.steps ≡ l.initial.steps + ht_sign_cost g.P.WotsSizes.WOTS_SIG_LEN hp l.j;
    }
