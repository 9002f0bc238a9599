-- The ways up in all trees of a forest, a height at a time.
use Rattle.std.proofs.Common.{◌≡◌, ℕ, zero, suc, ◌+◌, ◌*◌, ◌/◌, ◌%◌, ◌^◌, ◌<◌, ◌≤◌, List, ◌++◌, length, take, drop, arith, ap, sym, refl, ◌∙◌, add-one}
use Rattle.std.specs.Prelude.{Bool, true, false, ◌==◌, if◌then◌else◌}
use Rattle.std.proofs.lemmas.List.{length-take-le}
use Rattle.slh_core.specs.Bytes.{part}
use Rattle.slh_core.specs.Suite.{HasLength, Seeded}
use Rattle.slh_core.proofs.Joins.{range_right}
use Rattle.slh_merkle.specs.Checking.{checked_fors_node}
use Rattle.slh_merkle.specs.Fors.{fors_place, leaf_index}
use Rattle.slh_merkle.specs.Merkle.{Place, node_bytes, climb}
use Rattle.slh_merkle.proofs.Powers.{half}
use Rattle.slh_merkle.proofs.Rows.{part_front, part_of_front}

-- the part that was put behind the front of a list
pub part_put : (n c : ℕ) (new old x : List ℕ) → take ((c + 1) * n) new ≡ take (c * n) old ++ x → length x ≡ n → (c + 1) * n ≤ length new → c * n ≤ length old → part n new c ≡ x
part_put n c new old x front size fits inside =
    sym (part_of_front n (c + 1) c new (omega arith) fits)
    ∙ ap (λ xs. part n xs c) front
    ∙ range_right (take (c * n) old) x (c * n) ((c + 1) * n) (length-take-le (c * n) old inside) (omega arith)

-- and the parts before it
pub part_before : (n c j : ℕ) (new old x : List ℕ) → take ((c + 1) * n) new ≡ take (c * n) old ++ x → j < c → (c + 1) * n ≤ length new → c * n ≤ length old → part n new j ≡ part n old j
part_before n c j new old x front below fits inside =
    sym (part_of_front n (c + 1) j new (omega arith) fits)
    ∙ ap (λ xs. part n xs j) front
    ∙ part_front n c j (take (c * n) old) x (length-take-le (c * n) old inside) below
    ∙ part_of_front n c j old below inside

-- a pair that stands in order is hashed in order
pub hashed_in_order : (h : List ℕ → List ℕ → List ℕ) (x y l r : List ℕ) (even : Bool) → l ≡ (if even then x else y) → r ≡ (if even then y else x) → h l r ≡ (if even then h x y else h y x)
hashed_in_order h x y l r true left right = rw (left, right) refl
hashed_in_order h x y l r false left right = rw (left, right) refl

length-choice : (xs ys : List ℕ) (n : ℕ) (b : Bool) → length xs ≡ n → length ys ≡ n → length (if b then xs else ys) ≡ n
length-choice xs ys n true one other = one
length-choice xs ys n false one other = other

length-climb : (K : Seeded) (B : Place) (x : List ℕ) (y : ℕ) (path : List ℕ) (z : ℕ) → HasLength K.suite K.n → length x ≡ K.n → length (climb K B x y path z) ≡ K.n
unfolding climb
length-climb K B x y path zero law size = size
length-climb K B x y path (suc z) law size =
    length-choice _ _ K.n (y / 2 ^ z % 2 == 0) (law.h _ _ _ _) (law.h _ _ _ _)

pub length-checked_fors_node : (K : Seeded) (t l a : ℕ) (sig x : List ℕ) (i z : ℕ) → HasLength K.suite K.n → length (checked_fors_node K t l a sig x i z) ≡ K.n
unfolding checked_fors_node
length-checked_fors_node K t l a sig x i z law =
    length-climb K (fors_place t l) _ (leaf_index a x i) _ z law (law.f _ _ _)

-- the node above, by the index of the one below it
pub node_above : (K : Seeded) (t l a : ℕ) (sig x : List ℕ) (i z above index : ℕ) → above ≡ suc z → index ≡ leaf_index a x i / 2 ^ z → (let opened = part ((1 + a) * K.n) sig i in let node = checked_fors_node K t l a sig x i z in let beside = part K.n (drop K.n opened) z in let at = node_bytes (fors_place t l) above (index / 2) in if index % 2 == 0 then K.suite.h K.seed at node beside else K.suite.h K.seed at beside node) ≡ checked_fors_node K t l a sig x i above
unfolding checked_fors_node climb
node_above K t l a sig x i z above index next is =
    let y = leaf_index a x i in
    let level : y / 2 ^ suc z ≡ y / 2 ^ z / 2 = rw (← add-one z) (half y z) in rw (next, is, level) refl
