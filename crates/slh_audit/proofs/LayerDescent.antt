-- One layer: where its root is the tree's own, evidence is found, or the layer's part of the signature
-- is the key's, and so is the message that it signs.
use Rattle.std.proofs.Common.{◌≡◌, ◌⊎◌, inl, inr, ℕ, suc, ◌+◌, ◌-◌, ◌*◌, ◌/◌, ◌^◌, ◌<◌, ◌≤◌, List, ◌++◌, length, take, drop, get_or, arith, sym, ap, ◌∙◌, length-take, length-drop}
use Rattle.std.specs.Prelude.{slice_index}
use Rattle.std.proofs.lemmas.List.{take-append-drop}
use Rattle.std.proofs.Math.Nat.{div-eq_of_lt}
use Rattle.slh_audit.proofs.Descent.{climb_down, chain_down}
use Rattle.slh_core.proofs.Incomparable.{some_below, same_messages}
use Rattle.slh_audit.proofs.Pieces.{same_or_not, found_or_all, same_joined, joined_parts, length-part}
use Rattle.slh_audit.proofs.Meaning.{TreeNodeShows, LeafShows, ChainStepShows, EarlyShows}
use Rattle.slh_core.specs.Bytes.{joined, part}
use Rattle.slh_core.specs.Wots.{chain_value, chain_values, wots_sig, checked_chain, checked_ends, wots_pk_from_sig, wots_pk}
use Rattle.slh_core.specs.Digits.{wots_digits}
use Rattle.slh_core.specs.Parameters.{chain_count}
use Rattle.slh_core.specs.Suite.{HasLength, Seeded}
use Rattle.slh_core.proofs.Chains.{length-chain, length-chain_value, length-wots_pk}
use Rattle.slh_core.proofs.DigitSteps.{wots_digits_below}
use Rattle.slh_core.proofs.Joins.{joined_same}
use Rattle.slh_merkle.proofs.Layers.{part_fits}
use Rattle.slh_merkle.specs.Checking.{checked_node}
use Rattle.slh_merkle.specs.Hypertree.{layer_size}
use Rattle.slh_merkle.specs.Merkle.{merkle_auth_path}
use Rattle.slh_merkle.specs.Xmss.{tree_place, xmss_node, auth_path, xmss_sig}

-- n bytes
pub record IsValue (n : ℕ) (x : List ℕ) : Type 0 where
  pub len : length x ≡ n
  pub bytes : (k : ℕ) → get_or x k 0 < 256

-- what each place of a layer gives, where it shows
pub record Finds (K : Seeded) (sk : List ℕ) (hp j t y : ℕ) (sig m own : List ℕ) (E : Type 0) : Type 0 where
  pub tree : (z : ℕ) → 1 ≤ z → z ≤ hp → TreeNodeShows K sk j t y sig m z → E
  pub leaf : LeafShows K sk j t y sig m → E
  pub step : (c q : ℕ) → c < chain_count K.n → ChainStepShows K sk j t y sig m c q → E
  pub early : (c : ℕ) → c < chain_count K.n → EarlyShows K sk j t y sig m own c → E

module _ (K : Seeded) (sk : List ℕ) (hp j t y : ℕ) (sig m own : List ℕ) (E : Type 0)
    (law : HasLength K.suite K.n) (finds : Finds K sk hp j t y sig m own E) (size : length sig ≡ layer_size K.n hp) where
  chains : List ℕ
  chains = take (chain_count K.n * K.n) sig

  path : List ℕ
  path = drop (chain_count K.n * K.n) sig

  length-chains : length chains ≡ chain_count K.n * K.n
  unfolding chains
  length-chains = omega (arith, length-take (chain_count K.n * K.n) sig)

  length-path : length path ≡ hp * K.n
  unfolding path
  length-path = omega (arith, length-drop (chain_count K.n * K.n) sig)

  -- from the root to the leaf
  tree_down : y < 2 ^ hp → checked_node K j t y sig m hp ≡ xmss_node K sk j t hp 0
      → E ⊎ ((wots_pk_from_sig K j t y chains m ≡ wots_pk K sk j t y) × (path ≡ auth_path K sk j t y hp))
  unfolding chains path checked_node wots_pk_from_sig TreeNodeShows merkle_auth_path
  tree_down below e =
      let from = wots_pk_from_sig K j t y chains m in
      let top : y / 2 ^ hp ≡ 0 = div-eq_of_lt below in
      elim (climb_down K (tree_place j t) (wots_pk K sk j t) from path y hp hp law (λ i. length-wots_pk K sk j t i law) (law.t _ _ _) length-path (omega arith) (rw top e)) [
        | inl found ↦
            (let z = found.0 in
            let last : suc z - 1 ≡ z = omega arith in
            inl (finds.tree (suc z) (omega arith) (omega (arith, found.1)) (rw last found.2)))
        | inr rest ↦ inr (rest.0, sym (joined_parts K.n hp path length-path) ∙ joined_same _ _ hp rest.1)
      ]

  -- from the leaf to the ends of the chains
  leaf_down : wots_pk_from_sig K j t y chains m ≡ wots_pk K sk j t y
      → E ⊎ ((c : ℕ) → c < chain_count K.n → checked_chain K j t y chains (wots_digits K.n m) c 15 ≡ chain_value K sk j t y c 15)
  unfolding chains LeafShows checked_ends
  leaf_down e =
      let w = wots_digits K.n m in
      elim (same_or_not (checked_ends K j t y chains w) (joined (λ c. chain_value K sk j t y c 15) (chain_count K.n))) [
        | inr differ ↦ inl (finds.leaf (differ, e))
        | inl same ↦ inr (same_joined _ _ K.n (chain_count K.n)
            (λ c below. length-chain K (part K.n chains c) j t y c (slice_index w c) (15 - slice_index w c) law
            (length-part K.n c chains (part_fits c (chain_count K.n) K.n (length chains) below length-chains)))
            (λ c below. length-chain_value K sk j t y c 15 law) same)
      ]

  -- from the ends of the chains to the values in the signature
  chains_down : ((c : ℕ) → c < chain_count K.n → checked_chain K j t y chains (wots_digits K.n m) c 15 ≡ chain_value K sk j t y c 15)
      → E ⊎ ((c : ℕ) → c < chain_count K.n → part K.n chains c ≡ chain_value K sk j t y c (slice_index (wots_digits K.n m) c))
  unfolding chains ChainStepShows
  chains_down ends =
      let w = wots_digits K.n m in
      found_or_all E _ (chain_count K.n) (λ c below.
      let digit = slice_index w c in
      let short : digit < 16 = wots_digits_below K.n m c in
      let whole : digit + (15 - digit) ≡ 15 = omega arith in
      elim (chain_down K sk j t y c (part K.n chains c) digit (15 - digit) (rw whole (ends c below))) [
        | inl found ↦ inl (finds.step c found.0 below (found.1, omega (arith, found.2), found.3))
        | inr rest ↦ inr rest
      ])

  -- from the values in the signature to the message
  message_down : K.n ≤ 32 → IsValue K.n m → IsValue K.n own
      → ((c : ℕ) → c < chain_count K.n → part K.n chains c ≡ chain_value K sk j t y c (slice_index (wots_digits K.n m) c))
      → E ⊎ (m ≡ own)
  unfolding chains EarlyShows
  message_down small value own_value opened =
      elim (some_below (λ c. slice_index (wots_digits K.n m) c) (λ c. slice_index (wots_digits K.n own) c) (chain_count K.n)) [
        | inl found ↦ inl (finds.early found.0 found.1 (found.2, opened found.0 found.1))
        | inr none ↦ inr (same_messages K.n m own small value.len own_value.len value.bytes own_value.bytes none)
      ]

  signature_again : m ≡ own → path ≡ auth_path K sk j t y hp
      → ((c : ℕ) → c < chain_count K.n → part K.n chains c ≡ chain_value K sk j t y c (slice_index (wots_digits K.n m) c))
      → sig ≡ xmss_sig K sk j t y own hp
  unfolding chains path chain_values
  signature_again same is_path opened =
      let values : chains ≡ wots_sig K sk j t y m
      = sym (joined_parts K.n (chain_count K.n) chains length-chains) ∙ joined_same _ _ (chain_count K.n) opened in
      sym (take-append-drop (chain_count K.n * K.n) sig)
      ∙ ap (λ f. f ++ path) (values ∙ ap (λ e. wots_sig K sk j t y e) same)
      ∙ ap (λ p. wots_sig K sk j t y own ++ p) is_path

  pub layer_down : K.n ≤ 32 → IsValue K.n m → IsValue K.n own → y < 2 ^ hp → checked_node K j t y sig m hp ≡ xmss_node K sk j t hp 0
      → E ⊎ ((m ≡ own) × (sig ≡ xmss_sig K sk j t y own hp))
  layer_down small value own_value below e =
      elim (tree_down below e) [
        | inl found ↦ inl found
        | inr tree ↦
            elim (leaf_down tree.0) [
              | inl found ↦ inl found
              | inr ends ↦
                  elim (chains_down ends) [
                    | inl found ↦ inl found
                    | inr opened ↦
                        elim (message_down small value own_value opened) [
                          | inl found ↦ inl found
                          | inr same ↦ inr (same, signature_again same tree.1 opened)
                        ]
                  ]
            ]
      ]
