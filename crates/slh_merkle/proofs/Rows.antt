-- Rows of leaves, and rows of the nodes above them.
use Rattle.std.proofs.Common.{◌≡◌, ℕ, zero, suc, ◌+◌, ◌-◌, ◌*◌, ◌/◌, ◌^◌, ◌<◌, ◌≤◌, List, [], ◌++◌, length, take, drop, arith, ap, sym, refl, ◌∙◌, add-one, add-suc, add-zero, append_assoc}
use Rattle.std.proofs.lemmas.List.{append-nil, take_all}
use Rattle.std.proofs.lemmas.List.{length-drop, length-take, take-append-drop, length-take-le}
use Rattle.std.proofs.lemmas.Nat.{mul-le}
use Rattle.slh_core.specs.Bytes.{joined, part}
use Rattle.slh_core.proofs.Joins.{joined_same, range_left}
use Rattle.slh_core.specs.Suite.{Seeded}
use Rattle.slh_merkle.specs.Merkle.{Place, node_bytes, merkle}

-- the node above a pair of a row, which starts below the node with index i
pub parent_up : (K : Seeded) (B : Place) (leaves : ℕ → List ℕ) (h i k count half : ℕ) → count ≡ 2 * half → K.suite.h K.seed (node_bytes B (h + 1) (i * half + k)) (merkle K B leaves h (i * count + 2 * k)) (merkle K B leaves h (i * count + (2 * k + 1))) ≡ merkle K B leaves (h + 1) (i * half + k)
unfolding merkle
parent_up K B leaves h i k count half e =
    let left : i * count + 2 * k ≡ 2 * (i * half + k) = rw e (omega arith) in
    let right : i * count + (2 * k + 1) ≡ 2 * (i * half + k) + 1 = rw e (omega arith) in
    rw (left, right, add-one) refl

-- a part of the front
pub part_front : (n count k : ℕ) (xs ys : List ℕ) → length xs ≡ count * n → k < count → part n (xs ++ ys) k ≡ part n xs k
part_front n count k xs ys size below =
    let fits : (k + 1) * n ≤ count * n = mul-le (k + 1) n count n (omega arith) (omega arith) in
    range_left xs ys (k * n) ((k + 1) * n) (omega arith) (omega arith)

pub part_of_front : (n count k : ℕ) (xs : List ℕ) → k < count → count * n ≤ length xs → part n (take (count * n) xs) k ≡ part n xs k
part_of_front n count k xs below fits =
    sym (part_front n count k (take (count * n) xs) (drop (count * n) xs) (length-take-le (count * n) xs fits) below)
    ∙ ap (λ ys. part n ys k) (take-append-drop (count * n) xs)

-- the node above a pair of a row of all nodes at a height
pub parent_of : (K : Seeded) (B : Place) (leaves : ℕ → List ℕ) (h k : ℕ) → K.suite.h K.seed (node_bytes B (h + 1) (0 + k)) (merkle K B leaves h (2 * k)) (merkle K B leaves h (2 * k + 1)) ≡ merkle K B leaves (h + 1) k
unfolding merkle
parent_of K B leaves h k =
    let same : 0 + k ≡ k = omega arith in
    rw (same, add-one) refl

-- rows that stand one after the other are one row
pub joined-add : (f : ℕ → List ℕ) (a b : ℕ) → joined f (a + b) ≡ joined f a ++ joined (λ k. f (a + k)) b
unfolding joined
joined-add f a zero = rw (add-zero, append-nil) refl
joined-add f a (suc b) = rw (add-suc, joined-add f a b, append_assoc) refl

pub rows_joined : (leaf : ℕ → List ℕ) (first a b count : ℕ) → count ≡ a + b
    → joined (λ k. leaf (first + k)) a ++ joined (λ k. leaf (first + a + k)) b ≡ joined (λ k. leaf (first + k)) count
rows_joined leaf first a b count whole =
    let next : joined (λ k. leaf (first + a + k)) b ≡ joined (λ k. leaf (first + (a + k))) b
    = joined_same _ _ b (λ k below. let place : first + a + k ≡ first + (a + k) = omega arith in ap leaf place) in
    rw (whole, next) (sym (joined-add (λ k. leaf (first + k)) a b))

-- a buffer before its first part, and one that all parts fill
pub none_joined : (f : ℕ → List ℕ) (size : ℕ) (out : List ℕ) → take (0 * size) out ≡ joined f 0
unfolding joined
none_joined f size out =
    let none : 0 * size ≡ 0 = omega arith in rw none (refl {a = []})

pub whole_front : (size count at : ℕ) (out made : List ℕ) → at ≡ count → length out ≡ count * size → take (at * size) out ≡ made → out ≡ made
whole_front size count at out made last whole front =
    sym (take_all (count * size) out (omega arith)) ∙ rw last at front

-- eights of a row and what is left of it
pub eights_fit : (count n : ℕ) → count / 8 * (8 * n) ≤ count * n
eights_fit count n =
    let whole : count / 8 * (8 * n) ≡ (count / 8 * 8) * n = omega arith in
    rw whole (mul-le (count / 8 * 8) n count n (omega arith) (omega arith))

-- a group of eight stands within a number of bytes
pub eights_few : (g groups n : ℕ) → 8 * groups ≤ 2 ^ 32 → g < groups → n ≤ 32 → (g + 1) * (8 * n) ≤ 536870912 * 256
eights_few g groups n few below small =
    mul-le (g + 1) (8 * n) 536870912 256 (omega arith) (omega arith)

pub in_eights : (count q r n : ℕ) → count ≡ 8 * q + r → count * n ≡ q * (8 * n) + r * n
in_eights count q r n parts = rw parts (omega arith)

-- the bytes between two places of a list
pub length-cut : (a b size : ℕ) (xs : List ℕ) → b ≡ a + size → b ≤ length xs → length (take (b - a) (drop a xs)) ≡ size
length-cut a b size xs next fits =
    omega (arith, length-take {A = ℕ}, length-drop {A = ℕ})
