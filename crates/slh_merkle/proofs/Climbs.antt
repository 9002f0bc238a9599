-- The way up by the siblings of a tree's own path ends at its root.
use Rattle.std.proofs.Common.{◌≡◌, ℕ, zero, suc, ◌+◌, ◌*◌, ◌/◌, ◌%◌, ◌^◌, ◌<◌, ◌≤◌, List, length, arith, refl, ap, add-one}
use Rattle.std.specs.Prelude.{Bool, true, false, ◌==◌, if◌then◌else◌}
use Rattle.std.proofs.lemmas.Bool.Decides.{nat_tests}
use Rattle.std.proofs.Math.Nat.{div-eq_of_lt}
use Rattle.slh_core.specs.Bytes.{part}
use Rattle.slh_core.specs.Wots.{wots_pk, wots_sig}
use Rattle.slh_core.specs.Parameters.{chain_count}
use Rattle.slh_core.specs.Suite.{HasLength, Seeded}
use Rattle.slh_core.proofs.Chains.{wots_pk_from_sig-wots_sig, length-wots_pk, length-wots_sig}
use Rattle.slh_core.proofs.Joins.{part-joined, length-joined, take_front, drop_front}
use Rattle.slh_merkle.specs.Checking.{checked_node}
use Rattle.slh_merkle.specs.Merkle.{Place, node_bytes, sibling_of, merkle, merkle_auth_path, climb}
use Rattle.slh_merkle.specs.Xmss.{tree_place, xmss_node, auth_path, xmss_sig}
use Rattle.slh_merkle.proofs.Powers.{half}

-- a node's two children, by one of them
pub even_pair : (i : ℕ) → (i % 2 == 0) ≡ true → (2 * (i / 2) ≡ i) × (2 * (i / 2) + 1 ≡ sibling_of i)
even_pair i h = grind (arith, nat_tests)

pub odd_pair : (i : ℕ) → (i % 2 == 0) ≡ false → (2 * (i / 2) ≡ sibling_of i) × (2 * (i / 2) + 1 ≡ i)
odd_pair i h = grind (arith, nat_tests)

-- whichever child the way comes from, the left one is hashed first
in_order : (h : List ℕ → List ℕ → List ℕ) (at : ℕ → List ℕ) (i : ℕ) (b : Bool) → (i % 2 == 0) ≡ b → (if b then h (at i) (at (sibling_of i)) else h (at (sibling_of i)) (at i)) ≡ h (at (2 * (i / 2))) (at (2 * (i / 2) + 1))
in_order h at i true e = let p = even_pair i e in rw (p.1, p.0) refl
in_order h at i false e = let p = odd_pair i e in rw (p.1, p.0) refl

pub length-merkle : (K : Seeded) (B : Place) (leaves : ℕ → List ℕ) (z i : ℕ) → HasLength K.suite K.n → ((i : ℕ) → length (leaves i) ≡ K.n) → length (merkle K B leaves z i) ≡ K.n
unfolding merkle
length-merkle K B leaves zero i law sizes = sizes i
length-merkle K B leaves (suc z) i law sizes = law.h _ _ _ _

pub length-merkle_auth_path : (K : Seeded) (B : Place) (leaves : ℕ → List ℕ) (y heights : ℕ) → HasLength K.suite K.n → ((i : ℕ) → length (leaves i) ≡ K.n) → length (merkle_auth_path K B leaves y heights) ≡ heights * K.n
unfolding merkle_auth_path
length-merkle_auth_path K B leaves y heights law sizes =
    length-joined _ K.n heights (λ z. length-merkle K B leaves z (sibling_of (y / 2 ^ z)) law sizes)

-- by the siblings of the tree, each node on the way is the tree's own
pub climb-merkle_auth_path : (K : Seeded) (B : Place) (leaves : ℕ → List ℕ) (y top z : ℕ) → HasLength K.suite K.n → ((i : ℕ) → length (leaves i) ≡ K.n) → z ≤ top → climb K B (leaves y) y (merkle_auth_path K B leaves y top) z ≡ merkle K B leaves z (y / 2 ^ z)
unfolding climb merkle_auth_path merkle
climb-merkle_auth_path K B leaves y top zero law sizes h = ap leaves (omega arith)
climb-merkle_auth_path K B leaves y top (suc z) law sizes h =
    let i = y / 2 ^ z in
    let below = climb-merkle_auth_path K B leaves y top z law sizes (omega arith) in
    let beside : part K.n (merkle_auth_path K B leaves y top) z ≡ merkle K B leaves z (sibling_of i)
    = part-joined (λ k. merkle K B leaves k (sibling_of (y / 2 ^ k))) K.n top z (λ k. length-merkle K B leaves k (sibling_of (y / 2 ^ k)) law sizes) h in
    let level : y / 2 ^ suc z ≡ i / 2 = rw (← add-one z) (half y z) in
    rw (level, below, beside)
    (in_order (K.suite.h K.seed (node_bytes B (suc z) (i / 2))) (merkle K B leaves z) i (i % 2 == 0) refl)

pub length-auth_path : (K : Seeded) (sk : List ℕ) (j t y heights : ℕ) → HasLength K.suite K.n → length (auth_path K sk j t y heights) ≡ heights * K.n
length-auth_path K sk j t y heights law =
    length-merkle_auth_path K (tree_place j t) (wots_pk K sk j t) y heights law (λ i. length-wots_pk K sk j t i law)

-- a leaf and its path lead to the root
pub climb-auth_path : (K : Seeded) (sk : List ℕ) (hp j t y : ℕ) → HasLength K.suite K.n → y < 2 ^ hp → climb K (tree_place j t) (wots_pk K sk j t y) y (auth_path K sk j t y hp) hp ≡ xmss_node K sk j t hp 0
climb-auth_path K sk hp j t y law below =
    let top : y / 2 ^ hp ≡ 0 = div-eq_of_lt below in
    rw (climb-merkle_auth_path K (tree_place j t) (wots_pk K sk j t) y hp hp law (λ i. length-wots_pk K sk j t i law) (omega arith), top) refl

-- a signature under a leaf of a tree leads to its root
pub checked_node-xmss_sig : (K : Seeded) (sk : List ℕ) (hp j t y : ℕ) (m : List ℕ) → HasLength K.suite K.n → y < 2 ^ hp → checked_node K j t y (xmss_sig K sk j t y m hp) m hp ≡ xmss_node K sk j t hp 0
unfolding checked_node
checked_node-xmss_sig K sk hp j t y m law below =
    let chains = wots_sig K sk j t y m in
    let path = auth_path K sk j t y hp in
    let size : length chains ≡ chain_count K.n * K.n = length-wots_sig K sk j t y m law in
    rw (take_front _ chains path size, drop_front _ chains path size, wots_pk_from_sig-wots_sig K sk j t y m law)
    (climb-auth_path K sk hp j t y law below)
