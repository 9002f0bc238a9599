-- Against a layer that is the key's own nothing shows, and its check leads to the key's own root.
use Rattle.std.proofs.Common.{◌≡◌, ◌↔◌, ℕ, ◌+◌, ◌-◌, ◌*◌, ◌^◌, ◌<◌, ◌≤◌, Bool, true, false, IsTrue, arith, refl, sym, ap, ◌∙◌, add-one}
use Rattle.std.proofs.Common.{List, [], ◌∷◌, length, None}
use Rattle.std.specs.List.{find}
use Rattle.slh_audit.proofs.Finding.{after_none, head_not, one_not, turn_all_none}
use Rattle.slh_audit.proofs.Meaning.{Dispute, IsOwn, IsOwnFrom, IsOwnLayer, IsShown, checked_at, own_at, shows_means}
use Rattle.slh_audit.proofs.OwnBytes.{no_tree_node, no_leaf, no_chain_step, no_early}
use Rattle.slh_audit.proofs.Pieces.{joined_parts}
use Rattle.slh_audit.specs.Evidence.{shows}
use Rattle.slh_audit.specs.Places.{chain_places, in_turn, layer_places, tree_node_places}
use Rattle.slh_audit.specs.declared.evidence.Evidence.{Evidence}
use Rattle.slh_audit.specs.declared.evidence.Evidence.TheVariants.{ChainStep, Leaf, TreeNode, Early}
use Rattle.slh_core.proofs.Joins.{joined_same}
use Rattle.slh_core.specs.Bytes.{part}
use Rattle.slh_core.specs.Parameters.{chain_count}
use Rattle.slh_core.specs.Suite.{HasLength}
use Rattle.slh_merkle.proofs.Climbs.{checked_node-xmss_sig}
use Rattle.slh_merkle.proofs.Layers.{checked_message-more}
use Rattle.slh_merkle.specs.Fors.{fors_pk, fors_sig}
use Rattle.slh_merkle.specs.Checking.{fors_pk_from_sig}
use Rattle.slh_merkle.specs.Hypertree.{ht_sig, layer_signature, layer_size, leaf_at, tree_at}

pub not_true : (b : Bool) → ¬ IsTrue b → b ≡ false
not_true true fails = absurd (fails refl)
not_true false fails = refl

module _ (D : Dispute) (j : ℕ) (law : HasLength D.K.suite D.K.n) (own : IsOwnLayer D j) where
  pub no_own_tree_node : (z : ℕ) → ¬ IsShown D (TreeNode j z)
  unfolding IsShown IsOwnLayer layer_signature
  no_own_tree_node z shows =
      no_tree_node D.K D.sk D.hp j (tree_at D.hp D.t j) (leaf_at D.hp D.t D.l j) (own_at D j) law z shows.0 shows.1
      (rw (own.0, own.1) at shows.2.1)

  pub no_own_leaf : ¬ IsShown D (Leaf j)
  unfolding IsShown IsOwnLayer layer_signature
  no_own_leaf shows =
      no_leaf D.K D.sk D.hp j (tree_at D.hp D.t j) (leaf_at D.hp D.t D.l j) (own_at D j) law (rw (own.0, own.1) at shows.1)

  pub no_own_chain_step : (c q : ℕ) → ¬ IsShown D (ChainStep j c q)
  unfolding IsShown IsOwnLayer layer_signature
  no_own_chain_step c q shows =
      no_chain_step D.K D.sk D.hp j (tree_at D.hp D.t j) (leaf_at D.hp D.t D.l j) (own_at D j) law c q shows.0
      (rw (own.0, own.1) at shows.1.1)

  pub no_own_early : (c : ℕ) → ¬ IsShown D (Early j c)
  unfolding IsShown IsOwnLayer layer_signature
  no_own_early c shows =
      no_early D.K D.sk D.hp j (tree_at D.hp D.t j) (leaf_at D.hp D.t D.l j) (own_at D j) law c
      (rw (own.0, own.1) at shows.1.1)

  silent : (e : Evidence) → ¬ IsShown D e → shows D e ≡ false
  silent e none = not_true (shows D e) (λ holds. none ((shows_means D e).0 holds))

  one_silent : (e : Evidence) → ¬ IsShown D e → find (shows D) (e ∷ []) ≡ None
  one_silent e none = one_not (shows D) false e refl (sym (silent e none))

  chain_silent : (c : ℕ) → find (shows D) (chain_places j c) ≡ None
  chain_silent c =
      after_none (shows D) (in_turn (λ down. ChainStep j c (14 - down) ∷ []) 15) (Early j c ∷ [])
      (turn_all_none (shows D) (λ down. ChainStep j c (14 - down) ∷ []) 15 (λ i below. one_silent (ChainStep j c (14 - i)) (no_own_chain_step c (14 - i))))
      ∙ one_silent (Early j c) (no_own_early c)

  pub layer_silent : find (shows D) (layer_places D.hp (chain_count D.K.n) j) ≡ None
  layer_silent =
      let nodes = turn_all_none (shows D) (λ down. TreeNode j (D.hp - down) ∷ []) D.hp (λ i below. one_silent (TreeNode j (D.hp - i)) (no_own_tree_node (D.hp - i))) in
      after_none (shows D) (tree_node_places D.hp j) (Leaf j ∷ in_turn (chain_places j) (chain_count D.K.n)) nodes
      ∙ head_not (shows D) false (Leaf j) (in_turn (chain_places j) (chain_count D.K.n)) refl (sym (silent (Leaf j) no_own_leaf))
      ∙ turn_all_none (shows D) (chain_places j) (chain_count D.K.n) (λ c below. chain_silent c)

  pub checked_up : leaf_at D.hp D.t D.l j < 2 ^ D.hp → own_at D (j + 1) ≡ checked_at D (j + 1)
  unfolding IsOwnLayer layer_signature
  checked_up below =
      let key = fors_pk_from_sig D.K D.t D.l D.k D.a D.forest D.md in
      let more = rw (own.0, own.1) at (checked_message-more D.K D.hp D.t D.l D.layers key j) in
      ap (own_at D) (add-one j)
      ∙ sym (checked_node-xmss_sig D.K D.sk D.hp j (tree_at D.hp D.t j) (leaf_at D.hp D.t D.l j) (own_at D j) law below)
      ∙ more

-- a comparison of messages and parts tells whether a layer is the key's own
pub own_layer_told : (D : Dispute) (j : ℕ) (b : Bool) (checked own sig made : List ℕ) → checked ≡ checked_at D j → own ≡ own_at D j
    → sig ≡ part (layer_size D.K.n D.hp) D.layers j → made ≡ layer_signature D.K D.hp D.sk D.t D.l (fors_pk D.K D.sk D.t D.l D.k D.a) j
    → IsTrue b ↔ ((checked ≡ own) × (sig ≡ made)) → IsTrue b ↔ IsOwnLayer D j
unfolding IsOwnLayer
own_layer_told D j b checked own sig made c o s m told = (
  (λ t. let both = told.0 t in (sym c ∙ both.0 ∙ o, sym s ∙ both.1 ∙ m)),
  (λ is_own. told.1 (c ∙ is_own.0 ∙ sym o, s ∙ is_own.1 ∙ sym m)),
)

-- the upper layers, from the top one down
pub upper_silent : (D : Dispute) (lowest : ℕ) → HasLength D.K.suite D.K.n → IsOwnFrom D lowest → lowest ≤ D.d
    → find (shows D) (in_turn (λ down. layer_places D.hp (chain_count D.K.n) (D.d - 1 - down)) (D.d - lowest)) ≡ None
upper_silent D lowest law own high =
    turn_all_none (shows D) (λ down. layer_places D.hp (chain_count D.K.n) (D.d - 1 - down)) (D.d - lowest)
    (λ down below. layer_silent D (D.d - 1 - down) law (own (D.d - 1 - down) (omega (arith, below)) (omega (arith, below))))

-- the forest and all layers
pub all_own : (D : Dispute) → length D.layers ≡ D.d * layer_size D.K.n D.hp → D.forest ≡ fors_sig D.K D.sk D.t D.l D.k D.a D.md → IsOwnFrom D 0 → IsOwn D
unfolding IsOwn IsOwnLayer ht_sig
all_own D size forest layers = (
  forest,
  sym (joined_parts (layer_size D.K.n D.hp) D.d D.layers size) ∙ joined_same _ _ D.d (λ i below. (layers i (omega arith) below).1),
)
