-- From equal outputs down: either a place is found where the inputs differ, or all inputs are equal.
use Rattle.std.proofs.Common.{◌≡◌, ◌⊎◌, inl, inr, ℕ, zero, suc, ◌+◌, ◌-◌, ◌*◌, ◌/◌, ◌%◌, ◌^◌, ◌<◌, ◌≤◌, ◌==◌, if◌then◌else◌, Bool, true, false, List, ◌++◌, length, arith, refl}
use Rattle.std.proofs.lemmas.Bool.{cases_lt}
use Rattle.slh_audit.proofs.Pieces.{same_or_not, same_pieces, length-part}
use Rattle.slh_audit.proofs.Meaning.{Collide, climb_input, merkle_input}
use Rattle.slh_core.specs.Bytes.{part}
use Rattle.slh_core.specs.Wots.{chain, chain_value}
use Rattle.slh_core.specs.Suite.{HasLength, Seeded}
use Rattle.slh_merkle.specs.Merkle.{Place, node_bytes, sibling_of, merkle, climb}
use Rattle.slh_merkle.proofs.Layers.{part_fits}
use Rattle.slh_audit.proofs.Nearby.{half}
use Rattle.slh_merkle.proofs.Climbs.{even_pair, odd_pair, length-merkle}

-- the two children, whichever of them is on the way
pub children : (at : ℕ → List ℕ) (below beside : List ℕ) (n i : ℕ) (b : Bool) → length below ≡ n → length beside ≡ n → ((k : ℕ) → length (at k) ≡ n) → (i % 2 == 0) ≡ b
    → (if b then below ++ beside else beside ++ below) ≡ at (2 * (i / 2)) ++ at (2 * (i / 2) + 1) → (below ≡ at i) × (beside ≡ at (sibling_of i))
children at below beside n i true lb ls la e same =
    let p = even_pair i e in
    same_pieces n below beside (at i) (at (sibling_of i)) lb (la i) (rw (p.1, p.0) at same)
children at below beside n i false lb ls la e same =
    let p = odd_pair i e in
    let both = same_pieces n beside below (at (sibling_of i)) (at i) ls (la (sibling_of i)) (rw (p.1, p.0) at same) in
    (both.1, both.0)

length-hashed : (K : Seeded) (a l r : List ℕ) (b : Bool) → HasLength K.suite K.n → length (if b then K.suite.h K.seed a l r else K.suite.h K.seed a r l) ≡ K.n
length-hashed K a l r true law = law.h _ _ _ _
length-hashed K a l r false law = law.h _ _ _ _

pub length-climb : (K : Seeded) (B : Place) (x path : List ℕ) (y z : ℕ) → HasLength K.suite K.n → length x ≡ K.n → length (climb K B x y path z) ≡ K.n
unfolding climb
length-climb K B x path y zero law lx = lx
length-climb K B x path y (suc z) law lx =
    length-hashed K (node_bytes B (suc z) (y / 2 ^ suc z)) (climb K B x y path z) (part K.n path z) (y / 2 ^ z % 2 == 0) law

lowest_node : (K : Seeded) (B : Place) (leaves : ℕ → List ℕ) (x path : List ℕ) (y : ℕ) → climb K B x y path zero ≡ merkle K B leaves zero (y / 2 ^ zero) → x ≡ leaves y
unfolding climb merkle
lowest_node K B leaves x path y e = let same : y / 2 ^ zero ≡ y = omega arith in rw same at e

-- a node on the way up and the tree's own
pub climb_down : (K : Seeded) (B : Place) (leaves : ℕ → List ℕ) (x path : List ℕ) (y top z : ℕ)
    → HasLength K.suite K.n → ((i : ℕ) → length (leaves i) ≡ K.n) → length x ≡ K.n → length path ≡ top * K.n → z ≤ top
    → climb K B x y path z ≡ merkle K B leaves z (y / 2 ^ z)
    → ((h : ℕ) × (h < z) × Collide (climb_input K B x y path h) (merkle_input K B leaves h (y / 2 ^ suc h)) (climb K B x y path (suc h)) (merkle K B leaves (suc h) (y / 2 ^ suc h)))
    ⊎ ((x ≡ leaves y) × ((h : ℕ) → h < z → part K.n path h ≡ merkle K B leaves h (sibling_of (y / 2 ^ h))))
unfolding climb_input merkle_input
climb_down K B leaves x path y top zero law lens lx lp h e =
    inr (lowest_node K B leaves x path y e, λ c below. absurd (omega arith))
climb_down K B leaves x path y top (suc z) law lens lx lp h e =
    let i = y / 2 ^ z in
    elim (same_or_not (climb_input K B x y path z) (merkle_input K B leaves z (y / 2 ^ suc z))) [
      | inr differ ↦ inl (z, omega arith, (differ, e))
      | inl same ↦
          (let fits : (z + 1) * K.n ≤ length path = part_fits z top K.n (length path) h lp in
          let both = children (λ k. merkle K B leaves z k) (climb K B x y path z) (part K.n path z) K.n i (i % 2 == 0)
          (length-climb K B x path y z law lx) (length-part K.n z path fits) (λ k. length-merkle K B leaves z k law lens) refl (rw (half y z) at same) in
          elim (climb_down K B leaves x path y top z law lens lx lp (omega arith) both.0) [
            | inl found ↦ inl (found.0, omega (arith, found.1), found.2)
            | inr rest ↦ inr (
              rest.0,
              λ c below. elim (cases_lt c z) [
                | inl inside ↦ rest.1 c inside
                | inr last ↦ (let equal : c ≡ z = omega arith in rw equal both.1)
              ],
            )
          ])
    ]

first_value : (K : Seeded) (sk : List ℕ) (j t l c : ℕ) (v : List ℕ) (w : ℕ) → chain K j t l c v w zero ≡ chain_value K sk j t l c (w + zero) → v ≡ chain_value K sk j t l c w
unfolding chain
first_value K sk j t l c v w e = let same : w + zero ≡ w = omega arith in rw same at e

-- a chain's value and the key's own
pub chain_down : (K : Seeded) (sk : List ℕ) (j t l c : ℕ) (v : List ℕ) (w r : ℕ)
    → chain K j t l c v w r ≡ chain_value K sk j t l c (w + r)
    → ((q : ℕ) × (w ≤ q) × (q < w + r) × Collide (chain K j t l c v w (q - w)) (chain_value K sk j t l c q) (chain K j t l c v w (q + 1 - w)) (chain_value K sk j t l c (q + 1)))
    ⊎ (v ≡ chain_value K sk j t l c w)
chain_down K sk j t l c v w zero e = inr (first_value K sk j t l c v w e)
chain_down K sk j t l c v w (suc r) e =
    elim (same_or_not (chain K j t l c v w r) (chain_value K sk j t l c (w + r))) [
      | inr differ ↦
          (let steps : w + r - w ≡ r = omega arith in
          let more : w + r + 1 - w ≡ suc r = omega arith in
          let end : w + suc r ≡ w + r + 1 = omega arith in
          inl (w + r, omega arith, omega arith, (rw steps differ, rw more (rw end at e))))
      | inl same ↦
          elim (chain_down K sk j t l c v w r same) [
            | inl found ↦ inl (found.0, found.1, omega (arith, found.2), found.3)
            | inr rest ↦ inr rest
          ]
    ]
