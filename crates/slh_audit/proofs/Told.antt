-- What a comparison of nodes tells.
use Rattle.std.proofs.Common.{◌≡◌, ◌↔◌, ℕ, suc, ◌+◌, ◌-◌, ◌*◌, ◌/◌, ◌%◌, ◌^◌, ◌<◌, ◌≤◌, ◌==◌, Bool, IsTrue, List, length, take, drop, arith, refl, sym, ap, ◌∙◌}
use Rattle.std.proofs.Math.Nat.{pow-le-pow_right}
use Rattle.std.proofs.lemmas.Nat.{mul-le, shr_below, div_below, pow_pos, pow-add}
use Rattle.slh_core.specs.Parameters.{chain_count}
use Rattle.slh_core.specs.Wots.{wots_pk_from_sig}
use Rattle.slh_audit.proofs.Descent.{children, length-climb}
use Rattle.slh_audit.proofs.OwnBytes.{in_order}
use Rattle.slh_audit.proofs.Pieces.{length-part}
use Rattle.slh_audit.proofs.Meaning.{Collide, ForsNodeShows, climb_input, merkle_input}
use Rattle.slh_merkle.specs.Checking.{checked_fors_node}
use Rattle.slh_merkle.specs.Fors.{fors_leaf, fors_place, leaf_index}
use Rattle.slh_core.specs.Bytes.{part}
use Rattle.slh_core.specs.Suite.{HasLength, Seeded}
use Rattle.slh_merkle.specs.Merkle.{Place, node_bytes, sibling_of, merkle, climb}
use Rattle.slh_audit.proofs.Nearby.{half}
use Rattle.slh_merkle.proofs.Climbs.{length-merkle}

module _ (K : Seeded) (B : Place) (leaves : ℕ → List ℕ) (x path : List ℕ) (y z : ℕ)
    (law : HasLength K.suite K.n) (lens : (i : ℕ) → length (leaves i) ≡ K.n) (lx : length x ≡ K.n) (fits : (z + 1) * K.n ≤ length path) where
  same_children : climb_input K B x y path z ≡ merkle_input K B leaves z (y / 2 ^ suc z)
      → (climb K B x y path z ≡ merkle K B leaves z (y / 2 ^ z)) × (part K.n path z ≡ merkle K B leaves z (sibling_of (y / 2 ^ z)))
  unfolding climb_input merkle_input
  same_children same =
      let i = y / 2 ^ z in
      children (λ k. merkle K B leaves z k) (climb K B x y path z) (part K.n path z) K.n i (i % 2 == 0)
      (length-climb K B x path y z law lx) (length-part K.n z path fits) (λ k. length-merkle K B leaves z k law lens) refl (rw (half y z) at same)

  same_input : climb K B x y path z ≡ merkle K B leaves z (y / 2 ^ z) → part K.n path z ≡ merkle K B leaves z (sibling_of (y / 2 ^ z))
      → climb_input K B x y path z ≡ merkle_input K B leaves z (y / 2 ^ suc z)
  unfolding climb_input merkle_input
  same_input below beside =
      let i = y / 2 ^ z in
      rw (half y z, below, beside) (in_order (λ k. merkle K B leaves z k) i (i % 2 == 0) refl)

  -- nodes below and beside that aren't both the tree's own, under a node that is
  pub node_told : (b : Bool) (h : ℕ) → h ≡ suc z
      → IsTrue b ↔ ((¬ ((climb K B x y path z ≡ merkle K B leaves z (y / 2 ^ z)) × (part K.n path z ≡ merkle K B leaves z (sibling_of (y / 2 ^ z)))))
      × (climb K B x y path h ≡ merkle K B leaves h (y / 2 ^ h)))
      → IsTrue b ↔ Collide (climb_input K B x y path (h - 1)) (merkle_input K B leaves (h - 1) (y / 2 ^ h)) (climb K B x y path h) (merkle K B leaves h (y / 2 ^ h))
  node_told b h up tells =
      let last : suc z - 1 ≡ z = omega arith in
      rw (up, last) (
        (λ t. let told = rw up at (tells.0 t) in ((λ same. told.0 (same_children same)), told.1)),
        (λ collide. tells.1 (rw up ((λ both. collide.0 (same_input both.0 both.1)), collide.1))),
      )

-- a path of hp values has the first z
pub rows_fit : (z hp n len : ℕ) → z ≤ hp → len ≡ hp * n → z * n ≤ len
rows_fit z hp n len h e = rw e (mul-le z n hp n h (omega arith))

-- a node on the way up is of the tree
pub up_below : (y z top : ℕ) → z ≤ top → y < 2 ^ top → y / 2 ^ z < 2 ^ (top - z)
up_below y z top h k =
    let whole : top ≡ (top - z) + z = omega arith in
    shr_below y (top - z) z (rw (← whole) k)

-- a node on the way up has a sibling whose number fits
pub sibling_room : (y z top : ℕ) → top ≤ 31 → z ≤ top → y < 2 ^ top → y / 2 ^ z + 1 < 2 ^ 32
sibling_room y z top few inside below =
    let fits : top - z ≤ 31 = omega (arith, few) in
    let most : 2 ^ (top - z) ≤ 2 ^ 31 = pow-le-pow_right {n = 2} (omega arith) fits in
    omega (arith, most, up_below y z top inside below)

pub path_len : (n wots hp whole len : ℕ) → wots ≡ 2 * n + 3 → whole ≡ (chain_count n + hp) * n → len + wots * n ≡ whole → len ≡ hp * n
path_len n wots hp whole len e k l = let m : len + (2 * n + 3) * n ≡ whole = rw e at l in omega arith

pub length-wots_pk_from_sig : (K : Seeded) (j t l : ℕ) (sig m : List ℕ) → HasLength K.suite K.n → length (wots_pk_from_sig K j t l sig m) ≡ K.n
unfolding wots_pk_from_sig
length-wots_pk_from_sig K j t l sig m law = law.t _ _ _

pub up_below_of : (y z top k : ℕ) → z ≤ top → y < k * 2 ^ top → y / 2 ^ z < k * 2 ^ (top - z)
up_below_of y z top k h b =
    let whole : (top - z) + z ≡ top = omega arith in
    let product : 2 ^ top ≡ 2 ^ (top - z) * 2 ^ z = ap (λ e. 2 ^ e) (sym whole) ∙ pow-add 2 (top - z) z in
    let turned : k * 2 ^ top ≡ (k * 2 ^ (top - z)) * 2 ^ z = rw product (omega arith) in
    div_below y (2 ^ z) (k * 2 ^ (top - z)) (pow_pos z) (rw (← turned) b)

-- the same, of values that are computed somehow
pub node_told_of : (K : Seeded) (B : Place) (leaves : ℕ → List ℕ) (x path : List ℕ) (y h : ℕ)
    → HasLength K.suite K.n → ((i : ℕ) → length (leaves i) ≡ K.n) → length x ≡ K.n → 1 ≤ h → h * K.n ≤ length path
    → (b : Bool) (below own_below beside own_beside above own_above : List ℕ)
    → below ≡ climb K B x y path (h - 1) → own_below ≡ merkle K B leaves (h - 1) (y / 2 ^ (h - 1))
    → beside ≡ part K.n path (h - 1) → own_beside ≡ merkle K B leaves (h - 1) (sibling_of (y / 2 ^ (h - 1)))
    → above ≡ climb K B x y path h → own_above ≡ merkle K B leaves h (y / 2 ^ h)
    → IsTrue b ↔ ((¬ ((below ≡ own_below) × (beside ≡ own_beside))) × (above ≡ own_above))
    → IsTrue b ↔ Collide (climb_input K B x y path (h - 1)) (merkle_input K B leaves (h - 1) (y / 2 ^ h)) (climb K B x y path h) (merkle K B leaves h (y / 2 ^ h))
node_told_of K B leaves x path y h law lens lx low fits b below own_below beside own_beside above own_above e1 e2 e3 e4 e5 e6 tells =
    let up : h ≡ suc (h - 1) = omega arith in
    let enough : (h - 1 + 1) * K.n ≤ length path = let whole : h - 1 + 1 ≡ h = omega arith in rw whole fits in
    node_told K B leaves x path y (h - 1) law lens lx enough b h up (rw (e1, e2, e3, e4, e5, e6) at tells)

-- what is said of a node of the forest, by the hash of the opened secret
pub fors_node_meant : (K : Seeded) (sk : List ℕ) (t l a : ℕ) (sig x : List ℕ) (i z : ℕ) (b : Bool)
    → (let y = leaf_index a x i in
    let opened = part ((1 + a) * K.n) sig i in
    let from = K.suite.f K.seed (node_bytes (fors_place t l) 0 y) (take K.n opened) in
    let path = drop K.n opened in
    IsTrue b ↔ Collide (climb_input K (fors_place t l) from y path (z - 1)) (merkle_input K (fors_place t l) (fors_leaf K sk t l) (z - 1) (y / 2 ^ z)) (climb K (fors_place t l) from y path z) (merkle K (fors_place t l) (fors_leaf K sk t l) z (y / 2 ^ z)))
    → IsTrue b ↔ ForsNodeShows K sk t l a sig x i z
unfolding ForsNodeShows checked_fors_node climb
fors_node_meant K sk t l a sig x i z b tells = tells
