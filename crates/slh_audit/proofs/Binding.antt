-- Bytes that lead to the root of a key's top tree are those that the key makes, or there is evidence.
use Rattle.std.proofs.Common.{◌≡◌, ◌⊎◌, inl, inr, ℕ, zero, suc, ◌+◌, ◌-◌, ◌*◌, ◌^◌, ◌<◌, ◌≤◌, List, ◌++◌, length, take, drop, arith, refl, sym, ap, ◌∙◌, length-take, length-drop, length-append}
use Rattle.std.specs.Prelude.{slice_range}
use Rattle.std.proofs.lemmas.List.{take-append-drop, append_assoc}
use Rattle.std.proofs.lemmas.List.Folds.{drop_split}
use Rattle.std.proofs.lemmas.Nat.{mod_below, pow_pos}
use Rattle.std.proofs.Math.Nat.{div-eq_of_lt}
use Rattle.slh_audit.proofs.ForestDescent.{forest_down}
use Rattle.slh_audit.proofs.LayerDescent.{IsValue}
use Rattle.slh_audit.proofs.LayersDescent.{layers_down}
use Rattle.slh_audit.proofs.Pieces.{joined_parts}
use Rattle.slh_core.specs.Digits.{digits}
use Rattle.slh_audit.proofs.Meaning.{dispute_of, Dispute, IsOwn, IsOwnLayer, ForsNodeShows, IsShown, checked_at, dispute, own_at}
use Rattle.slh_audit.specs.declared.evidence.Evidence.{Evidence}
use Rattle.slh_audit.specs.declared.evidence.Evidence.TheVariants.{ForsNode, ForsRoots, ChainStep, Leaf, TreeNode, Early}
use Rattle.slh_audit.proofs.OwnBytes.{no_roots, no_secret, no_fors_node}
use Rattle.slh_audit.proofs.OwnLayers.{no_own_chain_step, no_own_early, no_own_leaf, no_own_tree_node}
use Rattle.slh_core.proofs.Joins.{joined_same, part-joined, range_left, range_right, drop_front}
use Rattle.slh_merkle.proofs.Forests.{fors_pk_from_sig-signature, length-fors_sig}
use Rattle.slh_merkle.proofs.Layers.{checked_message-signature, length-layer_signature}
use Rattle.slh_core.specs.Bytes.{part}
use Rattle.slh_core.specs.Parameters.{Scheme}
use Rattle.slh_core.specs.Suite.{HasLength, HasBytes, seeded}
use Rattle.slh_trees.specs.Checking.{checked_root, digest_root, signature_size}
use Rattle.slh_merkle.specs.Checking.{fors_pk_from_sig, forest_size}
use Rattle.slh_merkle.specs.Fors.{fors_pk, fors_sig}
use Rattle.slh_trees.specs.Keys.{top_root}
use Rattle.slh_merkle.specs.Hypertree.{ht_sig, layer_message, layer_signature, layer_size, tree_at}
use Rattle.slh_trees.specs.MessageDigest.{digest_number, split_digest}
use Rattle.slh_trees.specs.Signing.{digest_signature, signature_with}
use Rattle.slh_merkle.specs.Xmss.{xmss_node}

-- the sizes that hold of every parameter set and signature
pub record IsSized (D : Dispute) : Type 0 where
  pub lengths : HasLength D.K.suite D.K.n
  pub bytes : HasBytes D.K.suite
  pub n_high : D.K.n ≤ 32
  pub layers : 1 ≤ D.d
  pub height_low : 1 ≤ D.hp
  pub leaf : D.l < 2 ^ D.hp
  pub tree : D.t < 2 ^ ((D.d - 1) * D.hp)
  pub forest_len : length D.forest ≡ forest_size D.K.n D.k D.a
  pub layers_len : length D.layers ≡ D.d * layer_size D.K.n D.hp

pub Found : Dispute → Type 0
Found D = (e : Evidence) × IsShown D e

fors_node_found : (D : Dispute) (i z : ℕ) → i < D.k → 1 ≤ z → z ≤ D.a → ForsNodeShows D.K D.sk D.t D.l D.a D.forest (digits D.md D.a D.k) i z → Found D
unfolding Found IsShown
fors_node_found D i zero below low high shows = absurd (omega arith)
fors_node_found D i (suc z) below low high shows = (ForsNode i (suc z), (below, high, shows))

key_value : (D : Dispute) → IsSized D → IsValue D.K.n (fors_pk_from_sig D.K D.t D.l D.k D.a D.forest D.md)
unfolding fors_pk_from_sig
key_value D sized = record { len = sized.lengths.t _ _ _; bytes = sized.bytes.t _ _ _ }

own_value : (D : Dispute) → IsSized D → IsValue D.K.n (fors_pk D.K D.sk D.t D.l D.k D.a)
unfolding fors_pk
own_value D sized = record { len = sized.lengths.t _ _ _; bytes = sized.bytes.t _ _ _ }

pub descent : (D : Dispute) → IsSized D → checked_at D D.d ≡ xmss_node D.K D.sk (D.d - 1) 0 D.hp 0
    → Found D ⊎ IsOwn D
unfolding Found IsShown IsOwn ht_sig
descent D sized e =
    let K = D.K in
    let key = fors_pk_from_sig K D.t D.l D.k D.a D.forest D.md in
    let own = fors_pk K D.sk D.t D.l D.k D.a in
    let last : D.d ≡ suc (D.d - 1) = omega (arith, sized.layers) in
    let zero_tree : tree_at D.hp D.t (D.d - 1) ≡ 0 = div-eq_of_lt sized.tree in
    let top : own_at D D.d ≡ xmss_node K D.sk (D.d - 1) 0 D.hp 0
    = ap (λ j. layer_message K D.hp D.sk D.t D.l own j) last ∙ ap (λ t. xmss_node K D.sk (D.d - 1) t D.hp 0) zero_tree in
    elim (layers_down K D.sk D.hp D.d D.t D.l D.layers key own sized.lengths sized.bytes sized.height_low (key_value D sized) (own_value D sized) (Found D)
    (λ j below. record {
      tree = λ z low high shows. (TreeNode j z, (low, high, (below, shows)));
      leaf = λ shows. (Leaf j, (below, shows));
      step = λ c q count shows. (ChainStep j c q, (count, (below, shows)));
      early = λ c count shows. (Early j c, (count, (below, shows)));
    }) sized.n_high sized.leaf sized.layers_len D.d (omega arith) (e ∙ sym top)) [
      | inl found ↦ inl found
      | inr upper ↦
          elim (forest_down K D.sk D.t D.l D.a D.k D.forest D.md (Found D) sized.lengths
          (record {
            roots = λ shows. (ForsRoots, shows);
            secret = λ i below shows. (ForsNode i zero, (below, shows));
            node = λ i z below low high shows. fors_node_found D i z below low high shows;
          }) sized.forest_len upper.0) [
            | inl found ↦ inl found
            | inr forest ↦ inr (forest, sym (joined_parts (layer_size K.n D.hp) D.d D.layers sized.layers_len) ∙ joined_same _ _ D.d upper.1)
          ]
    ]

pub checked_own : (D : Dispute) → IsSized D → IsOwn D → (j : ℕ) → j ≤ D.d → checked_at D j ≡ own_at D j
unfolding IsOwn
checked_own D sized own j h =
    let K = D.K in
    rw (own.0, own.1, fors_pk_from_sig-signature K D.sk D.t D.l D.k D.a D.md sized.lengths)
    (checked_message-signature K D.hp D.sk D.t D.l (fors_pk K D.sk D.t D.l D.k D.a) D.d j sized.lengths sized.leaf h)

own_layer : (D : Dispute) → IsSized D → IsOwn D → (j : ℕ) → j < D.d → IsOwnLayer D j
unfolding IsOwn IsOwnLayer ht_sig
own_layer D sized own j below =
    let K = D.K in
    let key = fors_pk K D.sk D.t D.l D.k D.a in (
      checked_own D sized own j (omega (arith, below)),
      rw own.1 (part-joined (layer_signature K D.hp D.sk D.t D.l key) (layer_size K.n D.hp) D.d j (λ i. length-layer_signature K D.hp D.sk D.t D.l key i sized.lengths) below),
    )

-- nothing shows against them
pub none_shows : (D : Dispute) → IsSized D → IsOwn D → (e : Evidence) → ¬ IsShown D e
unfolding IsShown IsOwn
none_shows D sized own (TreeNode j z) shows =
    no_own_tree_node D j sized.lengths (own_layer D sized own j shows.2.0) z shows
none_shows D sized own (Leaf j) shows =
    no_own_leaf D j sized.lengths (own_layer D sized own j shows.0) shows
none_shows D sized own (ChainStep j c q) shows =
    no_own_chain_step D j sized.lengths (own_layer D sized own j shows.1.0) c q shows
none_shows D sized own (Early j c) shows =
    no_own_early D j sized.lengths (own_layer D sized own j shows.1.0) c shows
none_shows D sized own ForsRoots shows =
    no_roots D.K D.sk D.t D.l D.a D.k D.md sized.lengths (rw own.0 at shows)
none_shows D sized own (ForsNode i zero) shows =
    no_secret D.K D.sk D.t D.l D.a D.k D.md sized.lengths i shows.0 (rw own.0 at shows.1)
none_shows D sized own (ForsNode i (suc z)) shows =
    no_fors_node D.K D.sk D.t D.l D.a D.k D.md sized.lengths i z shows.0 shows.1 (rw own.0 at shows.2)

-- a digest and the bytes of a signature of the right number
pub sized_dispute : (Z : Scheme) (s sk digest sig : List ℕ) → HasLength Z.suite Z.n → HasBytes Z.suite → Z.n ≤ 32 → 1 ≤ Z.d → 1 ≤ Z.hp → length sig ≡ signature_size Z
    → IsSized (dispute Z s sk digest sig)
unfolding digest_number
sized_dispute Z s sk digest sig lengths bytes n_high layers low size =
    let upper = Z.n + forest_size Z.n Z.k Z.a in
    record {
      lengths = lengths;
      bytes = bytes;
      n_high = n_high;
      layers = layers;
      height_low = low;
      leaf = mod_below _ _ (pow_pos _);
      tree = mod_below _ _ (pow_pos _);
      forest_len = omega (arith, length-take (upper - Z.n) (drop Z.n sig), length-drop Z.n sig);
      layers_len = omega (arith, length-drop upper sig);
    }

-- the parts of a signature
whole_signature : (n upper : ℕ) (sig : List ℕ) → n ≤ upper → sig ≡ take n sig ++ (slice_range sig n upper ++ drop upper sig)
whole_signature n upper sig h =
    sym (take-append-drop n sig) ∙ ap (λ rest. take n sig ++ rest) (drop_split sig n upper h)

pub made_from_own : (Z : Scheme) (s sk digest sig : List ℕ) → IsOwn (dispute Z s sk digest sig) → sig ≡ digest_signature Z s sk (take Z.n sig) digest
unfolding IsOwn digest_signature
made_from_own Z s sk digest sig own =
    let K = seeded Z.suite Z.n s in
    let parts = split_digest Z digest in
    let forest = fors_sig K sk parts.tree parts.leaf Z.k Z.a parts.md in
    let layers = ht_sig K Z.hp sk parts.tree parts.leaf (fors_pk K sk parts.tree parts.leaf Z.k Z.a) Z.d in
    let upper = Z.n + forest_size Z.n Z.k Z.a in
    whole_signature Z.n upper sig (omega arith)
    ∙ ap (λ f. take Z.n sig ++ (f ++ drop upper sig)) own.0
    ∙ ap (λ f. take Z.n sig ++ (forest ++ f)) own.1
    ∙ sym (append_assoc (take Z.n sig) forest layers)

pub own_from_made : (Z : Scheme) (s sk digest sig : List ℕ) → HasLength Z.suite Z.n → length (take Z.n sig) ≡ Z.n → sig ≡ digest_signature Z s sk (take Z.n sig) digest → IsOwn (dispute Z s sk digest sig)
unfolding IsOwn digest_signature
own_from_made Z s sk digest sig law size e =
    let K = seeded Z.suite Z.n s in
    let parts = split_digest Z digest in
    let forest = fors_sig K sk parts.tree parts.leaf Z.k Z.a parts.md in
    let layers = ht_sig K Z.hp sk parts.tree parts.leaf (fors_pk K sk parts.tree parts.leaf Z.k Z.a) Z.d in
    let upper = Z.n + forest_size Z.n Z.k Z.a in
    let whole = whole_signature Z.n upper sig (omega arith) in
    let forest_len : length forest ≡ forest_size Z.n Z.k Z.a = length-fors_sig K sk parts.tree parts.leaf Z.k Z.a parts.md law in
    let front_len : length (take Z.n sig ++ forest) ≡ upper = rw (length-append (take Z.n sig) forest, size, forest_len) refl in (
      ap (λ x. slice_range x Z.n upper) e ∙ range_left (take Z.n sig ++ forest) layers Z.n upper (omega arith) (omega arith) ∙ range_right (take Z.n sig) forest Z.n upper size (rw forest_len refl),
      ap (drop upper) e ∙ drop_front upper (take Z.n sig ++ forest) layers front_len,
    )

pub binding_digest : (Z : Scheme) (s sk digest sig : List ℕ) → IsSized (dispute Z s sk digest sig) → digest_root Z s digest sig ≡ top_root Z s sk
    → ((e : Evidence) × IsShown (dispute Z s sk digest sig) e) ⊎ (sig ≡ digest_signature Z s sk (take Z.n sig) digest)
unfolding digest_root top_root Found IsOwn
binding_digest Z s sk digest sig sized e =
    elim (descent (dispute Z s sk digest sig) sized e) [
      | inl found ↦ inl found
      | inr own ↦ inr (made_from_own Z s sk digest sig own)
    ]

-- bytes that lead to the top root of a key's seeds are those that the key makes with their own
-- randomizer, or there is evidence that shows
pub binding : (Z : Scheme) (key message sig : List ℕ) → HasLength Z.suite Z.n → HasBytes Z.suite → Z.n ≤ 32 → 1 ≤ Z.d → 1 ≤ Z.hp → length sig ≡ signature_size Z
    → checked_root Z (part Z.n key 2) (part Z.n key 3) message sig ≡ top_root Z (part Z.n key 2) (part Z.n key 0)
    → ((e : Evidence) × IsShown (dispute_of Z key message sig) e) ⊎ (sig ≡ signature_with Z key (take Z.n sig) message)
binding Z key message sig lengths bytes n_high layers low size e =
    let s = part Z.n key 2 in
    let sk = part Z.n key 0 in
    let digest = Z.suite.h_msg (take Z.n sig) s (part Z.n key 3) message in
    binding_digest Z s sk digest sig (sized_dispute Z s sk digest sig lengths bytes n_high layers low size) e
