-- What evidence says, as propositions, and that the tests decide them.
use Rattle.std.proofs.Common.{◌≡◌, ◌≢◌, ℕ, zero, suc, ◌+◌, ◌-◌, ◌*◌, ◌/◌, ◌^◌, ◌<◌, ◌≤◌, Bool, true, false, not, ◌&&◌, refl}
use Rattle.std.specs.Prelude.{List, take, drop, slice_index, nat_lt, nat_le}
use Rattle.std.specs.Bool.{Decides}
use Rattle.std.proofs.lemmas.Bool.{false≢true}
use Rattle.std.proofs.lemmas.Slice.Eq.{bytes_eq-Decides}
use Rattle.std.proofs.lemmas.Bool.{ltb-true, lt-ltb, leb-true, le-leb}
use Rattle.slh_audit.specs.declared.evidence.Evidence.{Evidence}
use Rattle.slh_audit.specs.declared.evidence.Evidence.TheVariants.{ForsNode, ForsRoots, ChainStep, Leaf, TreeNode, Early}
use Rattle.slh_audit.specs.Evidence.{collide, tree_node_shows, leaf_shows, chain_step_shows, early_shows, fors_roots_show, fors_secret_shows, fors_node_shows, shows}
unfoldable pub use Rattle.slh_audit.specs.Evidence.{climb_input, merkle_input, IsOwn, IsOwnLayer}
pub use Rattle.slh_audit.specs.Evidence.{Dispute, IsOwnFrom, checked_at, own_at, dispute_on, dispute, dispute_of}
use Rattle.slh_core.specs.Bytes.{joined, part}
use Rattle.slh_core.specs.Wots.{chain_value, checked_chain, checked_ends, wots_pk_from_sig, wots_pk}
use Rattle.slh_core.specs.Digits.{digits, wots_digits}
use Rattle.slh_core.specs.Parameters.{chain_count}
use Rattle.slh_core.specs.Suite.{Seeded}
use Rattle.slh_merkle.specs.Checking.{fors_pk_from_sig, checked_fors_node, checked_node}
use Rattle.slh_merkle.specs.Fors.{fors_pk, fors_leaf, fors_node, fors_place, fors_secret, leaf_index}
use Rattle.slh_merkle.specs.Hypertree.{layer_size, leaf_at, tree_at}
use Rattle.slh_merkle.specs.Xmss.{xmss_node, tree_place}

-- the check's input and the key's differ, and their outputs are equal
abbrev pub Collide : List ℕ → List ℕ → List ℕ → List ℕ → Type 0
Collide input own_input output own_output = (input ≢ own_input) × (output ≡ own_output)

-- One layer: K is the suite with its public seed, sk the secret seed, j the layer, t the tree, y the
-- leaf, sig the layer's part of a signature, and m the message that it leads on from.
module _ (K : Seeded) (sk : List ℕ) (j t y : ℕ) (sig m : List ℕ) where
  -- the node at height z on the way up
  unfoldable pub TreeNodeShows : ℕ → Type 0
  TreeNodeShows z =
      let chains = chain_count K.n * K.n in
      let from = wots_pk_from_sig K j t y (take chains sig) m in
      Collide
      (climb_input K (tree_place j t) from y (drop chains sig) (z - 1))
      (merkle_input K (tree_place j t) (wots_pk K sk j t) (z - 1) (y / 2 ^ z))
      (checked_node K j t y sig m z)
      (xmss_node K sk j t z (y / 2 ^ z))

  -- the ends of all chains
  unfoldable pub LeafShows : Type 0
  LeafShows =
      let chains = take (chain_count K.n * K.n) sig in
      Collide
      (checked_ends K j t y chains (wots_digits K.n m))
      (joined (λ c. chain_value K sk j t y c 15) (chain_count K.n))
      (wots_pk_from_sig K j t y chains m)
      (wots_pk K sk j t y)

  -- chain c before step q, which is a step of the check
  unfoldable pub ChainStepShows : ℕ → ℕ → Type 0
  ChainStepShows c q =
      let w = wots_digits K.n m in
      let checked = checked_chain K j t y (take (chain_count K.n * K.n) sig) w c in
      (slice_index w c ≤ q) × (q ≤ 14)
      × Collide (checked q) (chain_value K sk j t y c q) (checked (q + 1)) (chain_value K sk j t y c (q + 1))

  -- chain c, which the key would open at a later step for its own message
  unfoldable pub EarlyShows : List ℕ → ℕ → Type 0
  EarlyShows own c =
      let digit = slice_index (wots_digits K.n m) c in
      let opened = part K.n (take (chain_count K.n * K.n) sig) c in
      (digit < slice_index (wots_digits K.n own) c) × (opened ≡ chain_value K sk j t y c digit)

-- The forest: t and l are the tree and the leaf of layer 0, a is the height of its trees, sig the
-- forest's part of a signature, and x the digits that name a leaf in each tree.
module _ (K : Seeded) (sk : List ℕ) (t l a : ℕ) (sig x : List ℕ) where
  -- the roots of all k trees
  unfoldable pub ForsRootsShows : ℕ → List ℕ → Type 0
  ForsRootsShows k md =
      Collide
      (joined (λ i. checked_fors_node K t l a sig x i a) k)
      (joined (λ i. fors_node K sk t l a i) k)
      (fors_pk_from_sig K t l k a sig md)
      (fors_pk K sk t l k a)

  -- the secret that is opened in tree i
  unfoldable pub ForsSecretShows : ℕ → Type 0
  ForsSecretShows i =
      let y = leaf_index a x i in
      Collide
      (take K.n (part ((1 + a) * K.n) sig i))
      (fors_secret K sk t l y)
      (checked_fors_node K t l a sig x i 0)
      (fors_leaf K sk t l y)

  -- the node at height z on the way up in tree i
  unfoldable pub ForsNodeShows : ℕ → ℕ → Type 0
  ForsNodeShows i z =
      let y = leaf_index a x i in
      let from = checked_fors_node K t l a sig x i 0 in
      let path = drop K.n (part ((1 + a) * K.n) sig i) in
      Collide
      (climb_input K (fors_place t l) from y path (z - 1))
      (merkle_input K (fors_place t l) (fors_leaf K sk t l) (z - 1) (y / 2 ^ z))
      (checked_fors_node K t l a sig x i z)
      (fors_node K sk t l z (y / 2 ^ z))

module _ (D : Dispute) where
  -- what is said of a layer's tree, leaf, part of the signature, and message
  abbrev pub AtLayer : (Seeded → List ℕ → ℕ → ℕ → ℕ → List ℕ → List ℕ → Type 0) → ℕ → Type 0
  AtLayer Shows j =
      (j < D.d)
      × Shows D.K D.sk j (tree_at D.hp D.t j) (leaf_at D.hp D.t D.l j) (part (layer_size D.K.n D.hp) D.layers j) (checked_at D j)

  -- the evidence is of a place that is there, and shows
  unfoldable pub IsShown : Evidence → Type 0
  IsShown (TreeNode j z) =
      (1 ≤ z) × (z ≤ D.hp) × AtLayer (λ K sk j t y sig m. TreeNodeShows K sk j t y sig m z) j
  IsShown (Leaf j) = AtLayer LeafShows j
  IsShown (ChainStep j c q) =
      (c < chain_count D.K.n) × AtLayer (λ K sk j t y sig m. ChainStepShows K sk j t y sig m c q) j
  IsShown (Early j c) =
      (c < chain_count D.K.n) × AtLayer (λ K sk j t y sig m. EarlyShows K sk j t y sig m (own_at D j) c) j
  IsShown ForsRoots = ForsRootsShows D.K D.sk D.t D.l D.a D.forest (digits D.md D.a D.k) D.k D.md
  IsShown (ForsNode i zero) =
      (i < D.k) × ForsSecretShows D.K D.sk D.t D.l D.a D.forest (digits D.md D.a D.k) i
  IsShown (ForsNode i (suc z)) =
      (i < D.k) × (suc z ≤ D.a)
      × ForsNodeShows D.K D.sk D.t D.l D.a D.forest (digits D.md D.a D.k) i (suc z)

-- ---- the tests decide what is said

and_means : {P Q : Type 0} (r s : Bool) → Decides r P → Decides s Q → Decides (r && s) (P × Q)
and_means true s p q = ((λ t. (p.0 refl, q.0 t)), (λ both. q.1 both.1))
and_means false s p q = ((λ t. absurd (false≢true t)), (λ both. p.1 both.0))

and3_means : {P Q R : Type 0} (r s t : Bool) → Decides r P → Decides s Q → Decides t R → Decides ((r && s) && t) (P × Q × R)
and3_means r s t p q u =
    let all = and_means (r && s) t (and_means r s p q) u in
    ((λ holds. let parts = all.0 holds in (parts.0.0, parts.0.1, parts.1)), (λ three. all.1 ((three.0, three.1), three.2)))

not_means : {P : Type 0} (r : Bool) → Decides r P → Decides (not r) (¬ P)
not_means true p = ((λ t. absurd (false≢true t)), (λ none. absurd (none (p.0 refl))))
not_means false p = ((λ t here. false≢true (p.1 here)), (λ none. refl))

le_means : (a b : ℕ) → Decides (nat_le a b) (a ≤ b)
le_means a b = (leb-true a b, le-leb a b)

lt_means : (a b : ℕ) → Decides (nat_lt a b) (a < b)
lt_means a b = (ltb-true a b, lt-ltb a b)

pub collide_means : (x own_x y own_y : List ℕ) → Decides (collide x own_x y own_y) (Collide x own_x y own_y)
collide_means x own_x y own_y =
    and_means _ _ (not_means _ (bytes_eq-Decides x own_x)) (bytes_eq-Decides y own_y)

module _ (K : Seeded) (sk : List ℕ) (j t y : ℕ) (sig m : List ℕ) where
  pub tree_node_means : (z : ℕ) → Decides (tree_node_shows K sk j t y sig m z) (TreeNodeShows K sk j t y sig m z)
  unfolding tree_node_shows TreeNodeShows
  tree_node_means z = collide_means _ _ _ _

  pub leaf_means : Decides (leaf_shows K sk j t y sig m) (LeafShows K sk j t y sig m)
  unfolding leaf_shows LeafShows
  leaf_means = collide_means _ _ _ _

  pub chain_step_means : (c q : ℕ) → Decides (chain_step_shows K sk j t y sig m c q) (ChainStepShows K sk j t y sig m c q)
  unfolding chain_step_shows ChainStepShows
  chain_step_means c q = and3_means _ _ _ (le_means (slice_index (wots_digits K.n m) c) q) (le_means q 14) (collide_means _ _ _ _)

  pub early_means : (own : List ℕ) (c : ℕ) → Decides (early_shows K sk j t y sig m own c) (EarlyShows K sk j t y sig m own c)
  unfolding early_shows EarlyShows
  early_means own c = and_means _ _ (lt_means _ _) (bytes_eq-Decides _ _)

module _ (K : Seeded) (sk : List ℕ) (t l a : ℕ) (sig x : List ℕ) where
  pub fors_roots_mean : (k : ℕ) (md : List ℕ) → Decides (fors_roots_show K sk t l a sig x k md) (ForsRootsShows K sk t l a sig x k md)
  unfolding fors_roots_show ForsRootsShows
  fors_roots_mean k md = collide_means _ _ _ _

  pub fors_secret_means : (i : ℕ) → Decides (fors_secret_shows K sk t l a sig x i) (ForsSecretShows K sk t l a sig x i)
  unfolding fors_secret_shows ForsSecretShows
  fors_secret_means i = collide_means _ _ _ _

  pub fors_node_means : (i z : ℕ) → Decides (fors_node_shows K sk t l a sig x i z) (ForsNodeShows K sk t l a sig x i z)
  unfolding fors_node_shows ForsNodeShows
  fors_node_means i z = collide_means _ _ _ _

pub shows_means : (D : Dispute) (e : Evidence) → Decides (shows D e) (IsShown D e)
unfolding shows IsShown
shows_means D (TreeNode j z) =
    and3_means _ _ _ (le_means 1 z) (le_means z D.hp) (and_means _ _ (lt_means j D.d) (tree_node_means _ _ _ _ _ _ _ z))
shows_means D (Leaf j) = and_means _ _ (lt_means _ _) (leaf_means _ _ _ _ _ _ _)
shows_means D (ChainStep j c q) = and_means _ _ (lt_means _ _) (and_means _ _ (lt_means _ _) (chain_step_means _ _ _ _ _ _ _ c q))
shows_means D (Early j c) = and_means _ _ (lt_means _ _) (and_means _ _ (lt_means _ _) (early_means _ _ _ _ _ _ _ _ c))
shows_means D ForsRoots = fors_roots_mean _ _ _ _ _ _ _ _ _
shows_means D (ForsNode i zero) = and_means _ _ (lt_means _ _) (fors_secret_means _ _ _ _ _ _ _ i)
shows_means D (ForsNode i (suc z)) = and3_means _ _ _ (lt_means i D.k) (le_means (suc z) D.a) (fors_node_means _ _ _ _ _ _ _ i (suc z))
