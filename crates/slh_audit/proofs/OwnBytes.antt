-- Against the bytes that a key makes nothing shows: at each place both inputs are the same.
use Rattle.std.proofs.Common.{◌≡◌, ℕ, zero, suc, ◌+◌, ◌-◌, ◌*◌, ◌/◌, ◌%◌, ◌^◌, ◌<◌, ◌≤◌, ◌==◌, if◌then◌else◌, Bool, true, false, List, ◌++◌, length, take, drop, arith, refl, sym, ap, ◌∙◌, zero-add, length-append}
use Rattle.std.proofs.lemmas.Nat.{div-mul-add}
use Rattle.std.specs.Prelude.{slice_index}
use Rattle.slh_audit.proofs.Meaning.{climb_input, merkle_input, TreeNodeShows, LeafShows, ChainStepShows, EarlyShows, ForsRootsShows, ForsSecretShows, ForsNodeShows}
use Rattle.slh_core.proofs.Chains.{chain-add, length-chain_value, length-wots_pk, length-wots_sig, wots_pk_from_sig-wots_sig}
use Rattle.slh_core.proofs.DigitSteps.{wots_digits_below, digits_below}
use Rattle.slh_core.proofs.Joins.{joined_same, part-joined, take_front, drop_front}
use Rattle.slh_core.specs.Bytes.{part}
use Rattle.slh_core.specs.Wots.{chain, chain_secret, chain_value, chain_values, wots_sig, checked_ends, wots_pk}
use Rattle.slh_core.specs.Digits.{digits, wots_digits}
use Rattle.slh_core.specs.Parameters.{chain_count}
use Rattle.slh_core.specs.Suite.{HasLength, Seeded}
use Rattle.slh_merkle.proofs.Climbs.{even_pair, odd_pair, length-merkle, length-merkle_auth_path, climb-merkle_auth_path}
use Rattle.slh_audit.proofs.Nearby.{half}
use Rattle.slh_merkle.specs.Checking.{checked_fors_node}
use Rattle.slh_merkle.specs.Fors.{fors_leaf, fors_opened, fors_auth_path, fors_place, fors_secret, fors_sig, leaf_index, opened_leaves}
use Rattle.slh_merkle.specs.Merkle.{Place, sibling_of, climb, merkle, merkle_auth_path}
use Rattle.slh_merkle.specs.Xmss.{tree_place, auth_path, xmss_sig}

-- whichever child the way comes from, the left one stands first
pub in_order : (at : ℕ → List ℕ) (i : ℕ) (b : Bool) → (i % 2 == 0) ≡ b → (if b then at i ++ at (sibling_of i) else at (sibling_of i) ++ at i) ≡ at (2 * (i / 2)) ++ at (2 * (i / 2) + 1)
in_order at i true e = let p = even_pair i e in rw (p.1, p.0) refl
in_order at i false e = let p = odd_pair i e in rw (p.1, p.0) refl

-- by the siblings of the tree, the children on the way are the tree's own
pub own_children : (K : Seeded) (B : Place) (leaves : ℕ → List ℕ) (y top z : ℕ) → HasLength K.suite K.n → ((i : ℕ) → length (leaves i) ≡ K.n) → z < top
    → climb_input K B (leaves y) y (merkle_auth_path K B leaves y top) z ≡ merkle_input K B leaves z (y / 2 ^ suc z)
unfolding climb_input merkle_input merkle_auth_path
own_children K B leaves y top z law sizes below =
    let i = y / 2 ^ z in
    let up = climb-merkle_auth_path K B leaves y top z law sizes (omega arith) in
    let beside : part K.n (merkle_auth_path K B leaves y top) z ≡ merkle K B leaves z (sibling_of i)
    = part-joined (λ k. merkle K B leaves k (sibling_of (y / 2 ^ k))) K.n top z (λ k. length-merkle K B leaves k (sibling_of (y / 2 ^ k)) law sizes) below in
    rw (half y z, up, beside) (in_order (λ k. merkle K B leaves z k) i (i % 2 == 0) refl)

-- a key's own chain, taken on from a value on it
own_chain : (K : Seeded) (sk : List ℕ) (j t l c w q : ℕ) → w ≤ q → chain K j t l c (chain_value K sk j t l c w) w (q - w) ≡ chain_value K sk j t l c q
own_chain K sk j t l c w q low =
    let whole : w + (q - w) ≡ q = omega arith in
    sym (rw zero-add at (chain-add K (chain_secret K sk j t l c) j t l c 0 w (q - w)))
    ∙ ap (λ e. chain_value K sk j t l c e) whole

module _ (K : Seeded) (sk : List ℕ) (hp j t y : ℕ) (own : List ℕ) (law : HasLength K.suite K.n) where
  chains_of : take (chain_count K.n * K.n) (xmss_sig K sk j t y own hp) ≡ wots_sig K sk j t y own
  chains_of = take_front (chain_count K.n * K.n) (wots_sig K sk j t y own) (auth_path K sk j t y hp) (length-wots_sig K sk j t y own law)

  path_of : drop (chain_count K.n * K.n) (xmss_sig K sk j t y own hp) ≡ auth_path K sk j t y hp
  path_of = drop_front (chain_count K.n * K.n) (wots_sig K sk j t y own) (auth_path K sk j t y hp) (length-wots_sig K sk j t y own law)

  own_value : (c : ℕ) → c < chain_count K.n → part K.n (wots_sig K sk j t y own) c ≡ chain_value K sk j t y c (slice_index (wots_digits K.n own) c)
  unfolding chain_values
  own_value c below =
      part-joined (λ k. chain_value K sk j t y k (slice_index (wots_digits K.n own) k)) K.n (chain_count K.n) c
      (λ k. length-chain_value K sk j t y k (slice_index (wots_digits K.n own) k) law) below

  pub no_tree_node : (z : ℕ) → 1 ≤ z → z ≤ hp → ¬ TreeNodeShows K sk j t y (xmss_sig K sk j t y own hp) own z
  unfolding TreeNodeShows
  no_tree_node zero low high shows = absurd (omega arith)
  no_tree_node (suc z) low high shows =
      let last : suc z - 1 ≡ z = omega arith in
      shows.0 (rw (chains_of, path_of, last, wots_pk_from_sig-wots_sig K sk j t y own law) (own_children K (tree_place j t) (wots_pk K sk j t) y hp z law (λ i. length-wots_pk K sk j t i law) high))

  pub no_leaf : ¬ LeafShows K sk j t y (xmss_sig K sk j t y own hp) own
  unfolding LeafShows checked_ends
  no_leaf shows =
      shows.0 (rw chains_of (joined_same _ _ (chain_count K.n) (λ c below.
      let short : slice_index (wots_digits K.n own) c < 16 = wots_digits_below K.n own c in
      rw (own_value c below) (own_chain K sk j t y c (slice_index (wots_digits K.n own) c) 15 (omega arith)))))

  pub no_chain_step : (c q : ℕ) → c < chain_count K.n → ¬ ChainStepShows K sk j t y (xmss_sig K sk j t y own hp) own c q
  unfolding ChainStepShows
  no_chain_step c q below shows =
      shows.2.0 (rw (chains_of, own_value c below) (own_chain K sk j t y c (slice_index (wots_digits K.n own) c) q shows.0))

  pub no_early : (c : ℕ) → ¬ EarlyShows K sk j t y (xmss_sig K sk j t y own hp) own own c
  unfolding EarlyShows
  no_early c shows = absurd (omega (arith, shows.0))

pub length-fors_leaf : (K : Seeded) (sk : List ℕ) (t l i : ℕ) → HasLength K.suite K.n → length (fors_leaf K sk t l i) ≡ K.n
unfolding fors_leaf
length-fors_leaf K sk t l i law = law.f _ _ _

length-fors_secret : (K : Seeded) (sk : List ℕ) (t l i : ℕ) → HasLength K.suite K.n → length (fors_secret K sk t l i) ≡ K.n
unfolding fors_secret
length-fors_secret K sk t l i law = law.prf _ _ _

length-fors_opened : (K : Seeded) (sk : List ℕ) (t l a : ℕ) (x : List ℕ) (i : ℕ) → HasLength K.suite K.n → length (fors_opened K sk t l a x i) ≡ (1 + a) * K.n
unfolding fors_opened
length-fors_opened K sk t l a x i law =
    let y = leaf_index a x i in
    rw (length-append (fors_secret K sk t l y) (fors_auth_path K sk t l y a), length-fors_secret K sk t l y law, length-merkle_auth_path K (fors_place t l) (fors_leaf K sk t l) y a law (λ k. length-fors_leaf K sk t l k law))
    (omega arith)

module _ (K : Seeded) (sk : List ℕ) (t l a k : ℕ) (md : List ℕ) (law : HasLength K.suite K.n) where
  secret_of : (i : ℕ) → i < k → take K.n (part ((1 + a) * K.n) (fors_sig K sk t l k a md) i) ≡ fors_secret K sk t l (leaf_index a (digits md a k) i)
  unfolding opened_leaves fors_opened
  secret_of i below =
      let x = digits md a k in
      let y = leaf_index a x i in
      rw (part-joined (fors_opened K sk t l a x) ((1 + a) * K.n) k i (λ c. length-fors_opened K sk t l a x c law) below)
      (take_front K.n (fors_secret K sk t l y) (fors_auth_path K sk t l y a) (length-fors_secret K sk t l y law))

  path_below : (i : ℕ) → i < k → drop K.n (part ((1 + a) * K.n) (fors_sig K sk t l k a md) i) ≡ fors_auth_path K sk t l (leaf_index a (digits md a k) i) a
  unfolding opened_leaves fors_opened
  path_below i below =
      let x = digits md a k in
      let y = leaf_index a x i in
      rw (part-joined (fors_opened K sk t l a x) ((1 + a) * K.n) k i (λ c. length-fors_opened K sk t l a x c law) below)
      (drop_front K.n (fors_secret K sk t l y) (fors_auth_path K sk t l y a) (length-fors_secret K sk t l y law))

  lowest_of : (i : ℕ) → i < k → checked_fors_node K t l a (fors_sig K sk t l k a md) (digits md a k) i 0 ≡ fors_leaf K sk t l (leaf_index a (digits md a k) i)
  unfolding checked_fors_node climb fors_leaf
  lowest_of i below = rw (secret_of i below) refl

  pub no_secret : (i : ℕ) → i < k → ¬ ForsSecretShows K sk t l a (fors_sig K sk t l k a md) (digits md a k) i
  unfolding ForsSecretShows
  no_secret i below shows = shows.0 (secret_of i below)

  pub no_fors_node : (i z : ℕ) → i < k → z < a → ¬ ForsNodeShows K sk t l a (fors_sig K sk t l k a md) (digits md a k) i (suc z)
  unfolding ForsNodeShows
  no_fors_node i z below high shows =
      let last : suc z - 1 ≡ z = omega arith in
      let y = leaf_index a (digits md a k) i in
      shows.0 (rw (path_below i below, last, lowest_of i below) (own_children K (fors_place t l) (fors_leaf K sk t l) y a z law (λ c. length-fors_leaf K sk t l c law) high))

  pub no_roots : ¬ ForsRootsShows K sk t l a (fors_sig K sk t l k a md) (digits md a k) k md
  unfolding ForsRootsShows checked_fors_node fors_leaf
  no_roots shows =
      let x = digits md a k in
      shows.0 (joined_same _ _ k (λ i below.
      let y = leaf_index a x i in
      let top : y / 2 ^ a ≡ i = div-mul-add i (2 ^ a) (slice_index x i) (digits_below md a k i below) in
      rw (secret_of i below, path_below i below)
      (climb-merkle_auth_path K (fors_place t l) (fors_leaf K sk t l) y a a law (λ c. length-fors_leaf K sk t l c law) (omega arith)
      ∙ ap (λ e. merkle K (fors_place t l) (fors_leaf K sk t l) a e) top)))
