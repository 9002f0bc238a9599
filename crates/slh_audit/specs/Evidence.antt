-- Evidence that accepted bytes are not those that a key makes. The check of a signature and the
-- key's own computation hash at the same addresses: what the check hashes comes from the bytes,
-- what the key hashes from its secret seed. Evidence names a place where the two inputs differ and
-- the two outputs are equal, or a chain that the bytes open at an earlier step than the key does.
use Rattle.std.specs.Prelude.{◌≡◌, ℕ, zero, suc, ◌+◌, ◌-◌, ◌*◌, ◌/◌, ◌%◌, ◌^◌, ◌<◌, ◌≤◌, ◌==◌}
use Rattle.std.specs.Prelude.{if◌then◌else◌}
use Rattle.std.specs.Prelude.{Bool, not, ◌&&◌, nat_lt, nat_le}
use Rattle.std.specs.Prelude.{List, ◌++◌, take, drop, slice_index}
use Rattle.std.specs.Str.{bytes_eq}
use Rattle.slh_audit.specs.declared.evidence.Evidence.{Evidence}
use Rattle.slh_audit.specs.declared.evidence.Evidence.TheVariants.{ForsNode, ForsRoots}
use Rattle.slh_audit.specs.declared.evidence.Evidence.TheVariants.{ChainStep, Leaf, TreeNode, Early}
use Rattle.slh_core.specs.Bytes.{joined, part}
use Rattle.slh_core.specs.Wots.{chain_value, checked_chain, checked_ends, wots_pk_from_sig, wots_pk}
use Rattle.slh_core.specs.Digits.{digits, wots_digits}
use Rattle.slh_core.specs.Parameters.{Scheme, chain_count}
use Rattle.slh_core.specs.Suite.{Seeded, seeded}
use Rattle.slh_merkle.specs.Checking.{fors_pk_from_sig, checked_fors_node, checked_message}
use Rattle.slh_trees.specs.Checking.{forest_of, layers_of}
use Rattle.slh_merkle.specs.Checking.{checked_node}
use Rattle.slh_merkle.specs.Fors.{fors_pk, fors_sig, fors_leaf, fors_node, fors_place}
use Rattle.slh_merkle.specs.Fors.{fors_secret, leaf_index}
use Rattle.slh_merkle.specs.Hypertree.{ht_sig, layer_message, layer_signature, layer_size}
use Rattle.slh_merkle.specs.Hypertree.{leaf_at, tree_at}
use Rattle.slh_merkle.specs.Merkle.{Place, climb, merkle}
use Rattle.slh_trees.specs.MessageDigest.{split_digest}
use Rattle.slh_merkle.specs.Xmss.{xmss_node, tree_place}

-- the check's input and the key's differ, and their outputs are equal
abbrev pub collide : List ℕ → List ℕ → List ℕ → List ℕ → Bool
collide input own_input output own_output =
    not (bytes_eq input own_input) && bytes_eq output own_output

-- the input of the node at height z + 1 on the way up from leaf y: its left and its right child
unfoldable pub climb_input : Seeded → Place → List ℕ → ℕ → List ℕ → ℕ → List ℕ
climb_input K B x y path z =
    let below = climb K B x y path z in
    let beside = part K.n path z in
    if y / 2 ^ z % 2 == 0 then below ++ beside else beside ++ below

-- the input of the node with index i at height z + 1 of a whole tree
unfoldable pub merkle_input : Seeded → Place → (ℕ → List ℕ) → ℕ → ℕ → List ℕ
merkle_input K B leaves z i = merkle K B leaves z (2 * i) ++ merkle K B leaves z (2 * i + 1)

-- One layer: K is the suite with its public seed, sk the secret seed, j the layer, t the tree, y
-- the leaf, sig the layer's part of a signature, and m the message that it leads on from.
module _ (K : Seeded) (sk : List ℕ) (j t y : ℕ) (sig m : List ℕ) where
  -- the node at height z on the way up
  unfoldable pub tree_node_shows : ℕ → Bool
  tree_node_shows z =
      let chains = chain_count K.n * K.n in
      let from = wots_pk_from_sig K j t y (take chains sig) m in
      collide
      (climb_input K (tree_place j t) from y (drop chains sig) (z - 1))
      (merkle_input K (tree_place j t) (wots_pk K sk j t) (z - 1) (y / 2 ^ z))
      (checked_node K j t y sig m z)
      (xmss_node K sk j t z (y / 2 ^ z))

  -- the ends of all chains
  unfoldable pub leaf_shows : Bool
  leaf_shows =
      let chains = take (chain_count K.n * K.n) sig in
      collide
      (checked_ends K j t y chains (wots_digits K.n m))
      (joined (λ c. chain_value K sk j t y c 15) (chain_count K.n))
      (wots_pk_from_sig K j t y chains m)
      (wots_pk K sk j t y)

  -- chain c before step q, which is a step of the check
  unfoldable pub chain_step_shows : ℕ → ℕ → Bool
  chain_step_shows c q =
      let w = wots_digits K.n m in
      let checked = checked_chain K j t y (take (chain_count K.n * K.n) sig) w c in
      let own = chain_value K sk j t y c in
      nat_le (slice_index w c) q && nat_le q 14
      && collide (checked q) (own q) (checked (q + 1)) (own (q + 1))

  -- chain c, which the key opens at a later step, for its own message
  unfoldable pub early_shows : List ℕ → ℕ → Bool
  early_shows own c =
      let digit = slice_index (wots_digits K.n m) c in
      let opened = part K.n (take (chain_count K.n * K.n) sig) c in
      nat_lt digit (slice_index (wots_digits K.n own) c)
      && bytes_eq opened (chain_value K sk j t y c digit)

-- The forest: t and l are the tree and the leaf of layer 0, a is the height of its trees, sig the
-- forest's part of a signature, and x the digits that name a leaf in each tree.
module _ (K : Seeded) (sk : List ℕ) (t l a : ℕ) (sig x : List ℕ) where
  -- the roots of all k trees
  unfoldable pub fors_roots_show : ℕ → List ℕ → Bool
  fors_roots_show k md =
      collide
      (joined (λ i. checked_fors_node K t l a sig x i a) k)
      (joined (λ i. fors_node K sk t l a i) k)
      (fors_pk_from_sig K t l k a sig md)
      (fors_pk K sk t l k a)

  -- the secret that is opened in tree i
  unfoldable pub fors_secret_shows : ℕ → Bool
  fors_secret_shows i =
      let y = leaf_index a x i in
      collide
      (take K.n (part ((1 + a) * K.n) sig i))
      (fors_secret K sk t l y)
      (checked_fors_node K t l a sig x i 0)
      (fors_leaf K sk t l y)

  -- the node at height z on the way up in tree i
  unfoldable pub fors_node_shows : ℕ → ℕ → Bool
  fors_node_shows i z =
      let y = leaf_index a x i in
      let from = checked_fors_node K t l a sig x i 0 in
      let path = drop K.n (part ((1 + a) * K.n) sig i) in
      collide
      (climb_input K (fors_place t l) from y path (z - 1))
      (merkle_input K (fors_place t l) (fors_leaf K sk t l) (z - 1) (y / 2 ^ z))
      (checked_fors_node K t l a sig x i z)
      (fors_node K sk t l z (y / 2 ^ z))

-- a key and a signature, set against each other: the suite with the public seed, the secret seed, d
-- layers of trees of height hp, k trees of height a; the tree and the leaf of layer 0 and the bytes
-- that name leaves of the forest, by the message's digest; and the signature's two parts
pub record Dispute : Type 0 where
  pub K : Seeded
  pub sk : List ℕ
  pub hp : ℕ
  pub d : ℕ
  pub a : ℕ
  pub k : ℕ
  pub t : ℕ
  pub l : ℕ
  pub md : List ℕ
  pub forest : List ℕ
  pub layers : List ℕ

module _ (D : Dispute) where
  -- the message that the check leads to below layer j, and the key's own
  abbrev pub checked_at : ℕ → List ℕ
  checked_at j =
      let key = fors_pk_from_sig D.K D.t D.l D.k D.a D.forest D.md in
      checked_message D.K D.hp D.t D.l D.layers key j

  abbrev pub own_at : ℕ → List ℕ
  own_at j = layer_message D.K D.hp D.sk D.t D.l (fors_pk D.K D.sk D.t D.l D.k D.a) j

  -- a test of a layer, of its tree, leaf, part of the signature, and message
  abbrev pub at_layer : (Seeded → List ℕ → ℕ → ℕ → ℕ → List ℕ → List ℕ → Bool) → ℕ → Bool
  at_layer test j =
      let sig = part (layer_size D.K.n D.hp) D.layers j in
      nat_lt j D.d
      && test D.K D.sk j (tree_at D.hp D.t j) (leaf_at D.hp D.t D.l j) sig (checked_at j)

  -- whether evidence is of a place that is there, and shows
  unfoldable pub shows : Evidence → Bool
  shows (TreeNode j z) =
      nat_le 1 z && nat_le z D.hp
      && at_layer (λ K sk j t y sig m. tree_node_shows K sk j t y sig m z) j
  shows (Leaf j) = at_layer leaf_shows j
  shows (ChainStep j c q) =
      nat_lt c (chain_count D.K.n)
      && at_layer (λ K sk j t y sig m. chain_step_shows K sk j t y sig m c q) j
  shows (Early j c) =
      nat_lt c (chain_count D.K.n)
      && at_layer (λ K sk j t y sig m. early_shows K sk j t y sig m (own_at j) c) j
  shows ForsRoots =
      fors_roots_show D.K D.sk D.t D.l D.a D.forest (digits D.md D.a D.k) D.k D.md
  shows (ForsNode i zero) =
      nat_lt i D.k
      && fors_secret_shows D.K D.sk D.t D.l D.a D.forest (digits D.md D.a D.k) i
  shows (ForsNode i (suc z)) =
      nat_lt i D.k && nat_le (suc z) D.a
      && fors_node_shows D.K D.sk D.t D.l D.a D.forest (digits D.md D.a D.k) i (suc z)

  -- layer j's part of the bytes is the one that the key makes, and the message that the check has
  -- there is the key's own
  unfoldable pub IsOwnLayer : ℕ → Type 0
  IsOwnLayer j =
      let key = fors_pk D.K D.sk D.t D.l D.k D.a in
      (checked_at j ≡ own_at j)
      × (part (layer_size D.K.n D.hp) D.layers j ≡ layer_signature D.K D.hp D.sk D.t D.l key j)

  -- so it is on each layer from a lowest one on
  abbrev pub IsOwnFrom : ℕ → Type 0
  IsOwnFrom lowest = (j : ℕ) → lowest ≤ j → j < D.d → IsOwnLayer j

  -- the bytes are those that the key makes
  unfoldable pub IsOwn : Type 0
  IsOwn =
      (D.forest ≡ fors_sig D.K D.sk D.t D.l D.k D.a D.md)
      × (D.layers ≡ ht_sig D.K D.hp D.sk D.t D.l (fors_pk D.K D.sk D.t D.l D.k D.a) D.d)

-- what a key, a digest and a signature bring: the public and the secret seed, the tree and the leaf
-- of layer 0, the bytes that name leaves of the forest, and the signature's two parts
pub record Parts : Type 0 where
  pub seed : List ℕ
  pub sk : List ℕ
  pub t : ℕ
  pub l : ℕ
  pub md : List ℕ
  pub forest : List ℕ
  pub layers : List ℕ

abbrev pub dispute_on : Scheme → Parts → Dispute
dispute_on Z x = record {
  K = seeded Z.suite Z.n x.seed;
  sk = x.sk;
  hp = Z.hp;
  d = Z.d;
  a = Z.a;
  k = Z.k;
  t = x.t;
  l = x.l;
  md = x.md;
  forest = x.forest;
  layers = x.layers;
}

-- of a digest, a public seed s, a secret seed sk and the bytes of a signature
abbrev pub dispute : Scheme → List ℕ → List ℕ → List ℕ → List ℕ → Dispute
dispute Z s sk digest sig =
    let parts = split_digest Z digest in
    dispute_on Z record {
      seed = s;
      sk = sk;
      t = parts.tree;
      l = parts.leaf;
      md = parts.md;
      forest = forest_of Z sig;
      layers = layers_of Z sig;
    }

-- a signing key against the bytes of a signature of a message
abbrev pub dispute_of : Scheme → List ℕ → List ℕ → List ℕ → Dispute
dispute_of Z key message sig =
    let s = part Z.n key 2 in
    let digest = Z.suite.h_msg (take Z.n sig) s (part Z.n key 3) message in
    dispute Z s (part Z.n key 0) digest sig
