-- One of the lowest nodes more, in a tree that is built in one pass.
use Rattle.std.proofs.Common.{◌≡◌, ◌≢◌, ℕ, suc, ◌+◌, ◌-◌, ◌*◌, ◌/◌, ◌%◌, ◌^◌, ◌<◌, ◌≤◌, List, arith, refl, ap, sym, ◌∙◌, add-one, inl, inr}
use Rattle.std.specs.Prelude.{count_ones}
use lib.Count.{ones}
use Rattle.std.proofs.lemmas.Bool.{cases_lt, cases_order}
use Rattle.std.proofs.lemmas.Nat.{ones_cat, mul-add-lt, mul-le, pow-add, shr-shr, pow_pos, shl-shr}
use Rattle.std.proofs.Math.Pow.{pow_mono}
use Rattle.std.proofs.Math.Nat.{div-eq_of_lt, mod-eq_of_lt, mul-add-div_right}
use Rattle.slh_core.specs.Suite.{Seeded}
use Rattle.slh_merkle.specs.Merkle.{Place, node_bytes, merkle}
use Rattle.slh_merkle.specs.Treehash.{stored_node, HoldsNodes}
use Rattle.slh_merkle.proofs.Powers.{half, twice, twice_more}

-- a leaf below a node of a forest is a leaf of the forest
pub leaf_below_of : (node z top k q : ℕ) → z ≤ top → node < k * 2 ^ (top - z) → q < 2 ^ z → node * 2 ^ z + q < k * 2 ^ top
leaf_below_of node z top k q h n small =
    let inside : node * 2 ^ z + q < 2 ^ z * (k * 2 ^ (top - z)) = mul-add-lt node (2 ^ z) q (k * 2 ^ (top - z)) n small in
    let whole : z + (top - z) ≡ top = omega arith in
    let product : 2 ^ top ≡ 2 ^ z * 2 ^ (top - z) = ap (λ e. 2 ^ e) (sym whole) ∙ pow-add 2 z (top - z) in
    rw product (omega arith)

-- the places of the store are enough
pub height_small : (q h bits : ℕ) → q < 2147483648 → q + 1 ≡ 2 ^ h * (bits + 1) → h ≤ 31
height_small q h bits few carried =
    elim (cases_lt 31 h) [
      | inl above ↦ (let most : 2 ^ 32 ≤ 2 ^ h = pow_mono above in
          let whole : 2 ^ h * 1 ≤ 2 ^ h * (bits + 1) = mul-le (2 ^ h) 1 (2 ^ h) (bits + 1) (omega arith) (omega arith) in absurd (omega arith))
      | inr within ↦ within
    ]

-- the height that is reached is that of the node at most
pub height_below : (q z h bits : ℕ) → q < 2 ^ z → q + 1 ≡ 2 ^ h * (bits + 1) → h ≤ z
height_below q z h bits few carried =
    elim (cases_lt z h) [
      | inl above ↦ (let next : 2 ^ (z + 1) ≤ 2 ^ h = pow_mono (let more : z + 1 ≤ h = omega arith in more) in
          let whole : 2 ^ h * 1 ≤ 2 ^ h * (bits + 1) = mul-le (2 ^ h) 1 (2 ^ h) (bits + 1) (omega arith) (omega arith) in
          absurd (omega (arith, twice_more z 1, pow_pos z)))
      | inr within ↦ within
    ]

-- a number that is shifted and stays small loses no bits
pub shifted_whole : (node z q : ℕ) → node * 2 ^ z + q < 4294967296 → node * 2 ^ z % 4294967296 ≡ node * 2 ^ z
shifted_whole node z q small = mod-eq_of_lt (let less : node * 2 ^ z < 4294967296 = omega arith in less)

-- the number of ones, as bits are shifted in
pub ones_odd : (m : ℕ) → count_ones (2 * m + 1) ≡ count_ones m + 1
unfolding ones
ones_odd m = let turned : 2 * m + 1 ≡ m * 2 + 1 = omega arith in rw turned (ones_cat 1 m 1 (omega arith))

pub ones_even : (m : ℕ) → count_ones (2 * m) ≡ count_ones m
unfolding ones
ones_even m =
    let turned : 2 * m ≡ m * 2 + 0 = omega arith in
    let none : count_ones m + 0 ≡ count_ones m = omega arith in
    rw turned (ones_cat 1 m 0 (omega arith) ∙ none)

pub ones_shifted : (h x : ℕ) → count_ones (2 ^ h * x) ≡ count_ones x
unfolding ones
ones_shifted h x =
    let turned : 2 ^ h * x ≡ x * 2 ^ h + 0 = omega arith in
    let none : count_ones x + 0 ≡ count_ones x = omega arith in
    rw turned (ones_cat h x 0 (pow_pos h) ∙ none)

-- a bit of a number below 2 ^ z is below z
pub bit_below : (q z h : ℕ) → q < 2 ^ z → q / 2 ^ h % 2 ≡ 1 → h < z
bit_below q z h small bit =
    elim (cases_lt h z) [
      | inl below ↦ below
      | inr above ↦ (let most : 2 ^ z ≤ 2 ^ h = pow_mono above in
          let none : q / 2 ^ h ≡ 0 = div-eq_of_lt (let less : q < 2 ^ h = omega arith in less) in absurd (omega arith))
    ]

-- the two children of a node that is finished
pub pair_up : (K : Seeded) (B : Place) (leaves : ℕ → List ℕ) (h index : ℕ) (left right : List ℕ) → index % 2 ≡ 1 → left ≡ merkle K B leaves h (index - 1) → right ≡ merkle K B leaves h index → K.suite.h K.seed (node_bytes B (h + 1) (index / 2)) left right ≡ merkle K B leaves (h + 1) (index / 2)
unfolding merkle
pair_up K B leaves h index left right odd l r =
    let before : index - 1 ≡ 2 * (index / 2) = omega arith in
    let last : index ≡ 2 * (index / 2) + 1 = omega arith in
    rw (l, r, before, add-one) (ap (λ e. K.suite.h K.seed (node_bytes B (suc h) (index / 2)) (merkle K B leaves h (2 * (index / 2))) (merkle K B leaves h e)) last)

-- the index at height h of the leaf after q others, below a node at height z
pub index_at : (i z q h : ℕ) → h ≤ z → (i * 2 ^ z + q) / 2 ^ h ≡ i * 2 ^ (z - h) + q / 2 ^ h
index_at i z q h below =
    let whole : (z - h) + h ≡ z = omega arith in
    let product : 2 ^ z ≡ 2 ^ (z - h) * 2 ^ h = ap (λ e. 2 ^ e) (sym whole) ∙ pow-add 2 (z - h) h in
    let turned : i * 2 ^ z + q ≡ (i * 2 ^ (z - h)) * 2 ^ h + q = rw product (omega arith) in
    rw turned (mul-add-div_right (pow_pos h) (i * 2 ^ (z - h)) q)

-- below the height of the node, it is odd where the bit of q is
pub odd_index : (i z q h index : ℕ) → index ≡ i * 2 ^ z + q → h < z → q / 2 ^ h % 2 ≡ 1 → index / 2 ^ h % 2 ≡ 1
odd_index i z q h index e below bit =
    let even = twice (z - h) i (omega arith) in
    rw (e, index_at i z q h (omega arith)) (omega arith)

-- all bits below h were ones
pub carried_up : (q h bits : ℕ) → bits % 2 ≡ 1 → q + 1 ≡ 2 ^ h * (bits + 1) → q + 1 ≡ 2 ^ (h + 1) * (bits / 2 + 1)
carried_up q h bits odd e =
    let pair : bits + 1 ≡ 2 * (bits / 2 + 1) = omega arith in
    rw (e, pair) (omega (arith, twice_more h (bits / 2 + 1)))

-- what is left of a number that ends in h zeros
zeros_out : (h x : ℕ) → 2 ^ h * x / 2 ^ h ≡ x
zeros_out h x = let turned : 2 ^ h * x ≡ x * 2 ^ h = omega arith in rw turned (shl-shr x h)

-- its bits below h are zeros
zero_below : (h k x : ℕ) → k < h → 2 ^ h * x / 2 ^ k ≡ 2 * (2 ^ (h - k - 1) * x)
zero_below h k x below =
    let whole : (h - k - 1 + 1) + k ≡ h = omega arith in
    let product : 2 ^ h ≡ 2 ^ (h - k - 1) * 2 * 2 ^ k = ap (λ e. 2 ^ e) (sym whole) ∙ pow-add 2 (h - k - 1 + 1) k ∙ ap (λ e. e * 2 ^ k) (pow-add 2 (h - k - 1) 1) in
    let turned : 2 ^ h * x ≡ (2 * (2 ^ (h - k - 1) * x)) * 2 ^ k = rw product (omega arith) in
    rw turned (shl-shr (2 * (2 ^ (h - k - 1) * x)) k)

-- its bits above h stay when one is added below
same_above : (q h k bits : ℕ) → bits ≡ q / 2 ^ h → bits % 2 ≢ 1 → q + 1 ≡ 2 ^ h * (bits + 1) → h < k → (q + 1) / 2 ^ k ≡ q / 2 ^ k
same_above q h k bits shifted even carried above =
    let whole : (h + 1) + (k - h - 1) ≡ k = omega arith in
    let next : (q + 1) / 2 ^ h ≡ bits + 1 = rw carried (zeros_out h (bits + 1)) in
    let halves : (q + 1) / 2 ^ (h + 1) ≡ q / 2 ^ (h + 1) = rw (half (q + 1) h, half q h, next, ← shifted) (omega arith) in
    rw (← whole, ← shr-shr (q + 1) (h + 1) (k - h - 1), ← shr-shr q (h + 1) (k - h - 1), halves) refl

-- the places after a leaf, where the bit at h was the lowest that was not a one
pub HoldsNodes-more : (n : ℕ) (nodes : ℕ → ℕ → List ℕ) (z i q h bits : ℕ) (old new : List ℕ) → bits ≡ q / 2 ^ h → bits % 2 ≢ 1 → q + 1 ≡ 2 ^ h * (bits + 1) → HoldsNodes n nodes z i q old → stored_node n new h ≡ nodes h (i * 2 ^ (z - h) + bits) → ((k : ℕ) → k ≢ h → stored_node n new k ≡ stored_node n old k) → HoldsNodes n nodes z i (q + 1) new
unfolding HoldsNodes
HoldsNodes-more n nodes z i q h bits old new shifted even carried holds here others k odd =
    elim (cases_order k h) [
      | inl same ↦ (let top : (q + 1) / 2 ^ h ≡ bits + 1 = rw carried (zeros_out h (bits + 1)) in
          let before : i * 2 ^ (z - h) + (bits + 1) - 1 ≡ i * 2 ^ (z - h) + bits = omega arith in
          rw (same, top, before) here)
      | inr (inl low) ↦ (let zero : (q + 1) / 2 ^ k ≡ 2 * (2 ^ (h - k - 1) * (bits + 1)) = rw carried (zero_below h k (bits + 1) low) in absurd (omega arith))
      | inr (inr high) ↦ (let stays = same_above q h k bits shifted even carried high in
          let other : k ≢ h = omega arith in
          rw (others k other, stays) (holds k (rw stays at odd)))
    ]

-- before the first leaf no node is finished
pub HoldsNodes-none : (n : ℕ) (nodes : ℕ → ℕ → List ℕ) (z i : ℕ) (store : List ℕ) → HoldsNodes n nodes z i 0 store
unfolding HoldsNodes
HoldsNodes-none n nodes z i store h bit =
    let none : 0 / 2 ^ h ≡ 0 = div-eq_of_lt (pow_pos h) in absurd (omega arith)

-- after all leaves the node itself is
pub HoldsNodes-all : (n : ℕ) (nodes : ℕ → ℕ → List ℕ) (z i q : ℕ) (store : List ℕ) → q ≡ 2 ^ z → HoldsNodes n nodes z i q store → stored_node n store z ≡ nodes z i
unfolding HoldsNodes
HoldsNodes-all n nodes z i q store all holds =
    let one : q / 2 ^ z ≡ 1 = (let turned : q ≡ 1 * 2 ^ z = omega arith in rw turned (shl-shr 1 z)) in
    let level : z - z ≡ 0 = omega arith in
    let self : i * 2 ^ (z - z) + q / 2 ^ z - 1 ≡ i = rw (level, one) (omega arith) in
    holds z (rw one refl) ∙ ap (λ e. nodes z e) self

pub ones-zero : count_ones 0 ≡ 0
unfolding ones
ones-zero = refl

pub ones-pow : (z : ℕ) → count_ones (2 ^ z) ≡ 1
unfolding ones
ones-pow z = let turned : 2 ^ z ≡ 2 ^ z * 1 = omega arith in rw turned (ones_shifted z 1)
