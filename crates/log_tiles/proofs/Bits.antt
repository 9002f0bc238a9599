-- The root over a list, from the roots over the runs of the powers of two in its length.
use Rattle.std.proofs.Common.{◌≡◌, ℕ, ◌+◌, ◌-◌, ◌*◌, ◌/◌, ◌%◌, ◌^◌, ◌<◌, ◌≤◌, List, [], length, take, drop, Option, None, Some, inl, inr, sym, ap, ◌∙◌, arith, length-drop}
use Rattle.std.proofs.Math.Nat.{div-div-eq-div-mul, div-eq_of_lt, mod-eq_of_lt, mod-lt}
use Rattle.std.proofs.lemmas.List.{drop-drop, nil_from_length, take_all}
use Rattle.std.proofs.Math.Pow.{pow_mono}
use Rattle.std.proofs.lemmas.Bool.{cases_lt}
use Rattle.std.proofs.lemmas.Nat.{div-add-mod', mod-pow-add, pow_pos, pow-add}
use Rattle.merkle_tree.proofs.Splitting.{no_leaves, tree_node}
use Rattle.merkle_tree.specs.Hashes.{HashFunction}
use Rattle.merkle_tree.specs.Tree.{empty_root, node_hash, tree_root}
use Rattle.merkle_store.specs.Nodes.{run_root}

-- how many digests the runs of 2 ^ height leave
abbrev pub left_over : List (List ℕ) → ℕ → ℕ
left_over q height = length q % 2 ^ height

abbrev pub rest_of : List (List ℕ) → ℕ → List (List ℕ)
rest_of q height = drop (length q - left_over q height) q

-- the root over them, where there are any
abbrev pub IsRest : HashFunction → List (List ℕ) → ℕ → Option (List ℕ) → Type 0
IsRest H q height None = left_over q height ≡ 0
IsRest H q height (Some root) = (0 < left_over q height) × (root ≡ tree_root H (rest_of q height))

pub no_rest : (H : HashFunction) (q : List (List ℕ)) → IsRest H q 0 None
no_rest H q = omega arith

over_up : (q : List (List ℕ)) (z left : ℕ) → left ≡ length q / 2 ^ z → left_over q (z + 1) ≡ left % 2 * 2 ^ z + left_over q z
over_up q z left is =
    let height : z + 1 ≡ 1 + z = omega arith in
    ap (λ h. length q % 2 ^ h) height ∙ mod-pow-add (length q) 1 z ∙ ap (λ n. n % 2 * 2 ^ z + left_over q z) (sym is)

over_even : (q : List (List ℕ)) (z left : ℕ) → left ≡ length q / 2 ^ z → left % 2 ≡ 0 → left_over q (z + 1) ≡ left_over q z
over_even q z left is even =
    let none : left % 2 * 2 ^ z ≡ 0 = ap (λ n. n * 2 ^ z) even ∙ omega arith in
    omega (arith, over_up q z left is, none)

pub rest_even : (H : HashFunction) (q : List (List ℕ)) (z left : ℕ) (rest : Option (List ℕ)) → left ≡ length q / 2 ^ z → left % 2 ≡ 0
    → IsRest H q z rest → IsRest H q (z + 1) rest
rest_even H q z left None is even so_far = over_even q z left is even ∙ so_far
rest_even H q z left (Some root) is even so_far =
    let over = over_even q z left is even in
    (omega (arith, over, so_far.0), so_far.1 ∙ ap (λ n. tree_root H (drop (length q - n) q)) (sym over))

-- one more run
abbrev pub with_run : HashFunction → List ℕ → Option (List ℕ) → List ℕ
with_run H run None = run
with_run H run (Some root) = node_hash H run root

-- the last run and what is behind it
odd_at : (q : List (List ℕ)) (z left : ℕ) → left ≡ length q / 2 ^ z → left % 2 ≡ 1
    → (left_over q (z + 1) ≡ 2 ^ z + left_over q z) × (length q - left_over q (z + 1) ≡ (left - 1) * 2 ^ z)
odd_at q z left is odd =
    let p = 2 ^ z in
    let one : left % 2 * p ≡ p = ap (λ n. n * p) odd ∙ omega arith in
    let over : left_over q (z + 1) ≡ p + left_over q z = omega (arith, over_up q z left is, one) in
    let split : length q ≡ left * p + left_over q z = sym (div-add-mod' (length q) p) ∙ ap (λ n. n * p + left_over q z) (sym is) in
    let back : left ≡ left - 1 + 1 = omega (arith, odd) in
    let runs : left * p ≡ (left - 1) * p + p = ap (λ n. n * p) back ∙ omega arith in
    (over, omega (arith, over, split, runs))

pub rest_odd : (H : HashFunction) (q : List (List ℕ)) (z left : ℕ) (run : List ℕ) (rest : Option (List ℕ)) → left ≡ length q / 2 ^ z → left % 2 ≡ 1
    → run ≡ run_root H z (left - 1) q → IsRest H q z rest → IsRest H q (z + 1) (Some (with_run H run rest))
rest_odd H q z left run None is odd node so_far =
    let p = 2 ^ z in
    let at = odd_at q z left is odd in
    let tail = drop ((left - 1) * p) q in
    let few : length q ≡ (length q - left_over q (z + 1)) + left_over q (z + 1) = omega (arith, div-add-mod' (length q) (2 ^ (z + 1))) in
    let long : length tail ≡ p = omega (arith, length-drop ((left - 1) * p) q, at.0, at.1, few, so_far) in (
      omega (arith, at.0, pow_pos z),
      node ∙ ap (tree_root H) (take_all p tail (omega (arith, long))) ∙ ap (λ n. tree_root H (drop n q)) (sym at.1),
    )
rest_odd H q z left run (Some root) is odd node so_far =
    let p = 2 ^ z in
    let at = odd_at q z left is odd in
    let tail = drop ((left - 1) * p) q in
    let few : length q ≡ (length q - left_over q (z + 1)) + left_over q (z + 1) = omega (arith, div-add-mod' (length q) (2 ^ (z + 1))) in
    let long : length tail ≡ p + left_over q z = omega (arith, length-drop ((left - 1) * p) q, at.0, at.1, few) in
    let twice : 2 ^ (z + 1) ≡ p * 2 = pow-add 2 z 1 in
    let below : left_over q z < p = mod-lt (length q) (pow_pos z) in
    let behind : (left - 1) * p + p ≡ length q - left_over q z = omega (arith, at.0, at.1, few) in
    let split : tree_root H tail ≡ node_hash H (tree_root H (take p tail)) (tree_root H (drop p tail))
    = tree_node H z tail (omega (arith, long, so_far.0)) (omega (arith, long, below, twice)) in
    let rest : tree_root H (drop p tail) ≡ root = ap (tree_root H) (drop-drop p ((left - 1) * p) q) ∙ ap (λ n. tree_root H (drop n q)) behind ∙ sym so_far.1 in (
      omega (arith, at.0, pow_pos z),
      sym (ap (λ n. tree_root H (drop n q)) at.1 ∙ split ∙ ap (λ x. node_hash H x (tree_root H (drop p tail))) (sym node) ∙ ap (node_hash H run) rest),
    )

-- nothing is left of the list
over_all : (q : List (List ℕ)) (z : ℕ) → 0 ≡ length q / 2 ^ z → left_over q z ≡ length q
over_all q z none = elim (cases_lt (length q) (2 ^ z)) [
  | inl small ↦ mod-eq_of_lt small
  | inr large ↦
      let split : length q ≡ length q / 2 ^ z * 2 ^ z + length q % 2 ^ z = sym (div-add-mod' (length q) (2 ^ z)) in
      let zeros : length q / 2 ^ z * 2 ^ z ≡ 0 = ap (λ n. n * 2 ^ z) (sym none) ∙ omega arith in
      omega (arith, split, zeros)
]

pub rest_some : (H : HashFunction) (q : List (List ℕ)) (z : ℕ) (root : List ℕ) → 0 ≡ length q / 2 ^ z → IsRest H q z (Some root) → root ≡ tree_root H q
rest_some H q z root none rest =
    let all : length q - left_over q z ≡ 0 = omega (arith, over_all q z none) in
    rest.1 ∙ ap (λ n. tree_root H (drop n q)) all

pub rest_none : (H : HashFunction) (q : List (List ℕ)) (z : ℕ) → 0 ≡ length q / 2 ^ z → IsRest H q z None → empty_root H ≡ tree_root H q
rest_none H q z none rest =
    let nil : q ≡ [] = nil_from_length q (omega (arith, over_all q z none, rest)) in
    sym (ap (tree_root H) nil ∙ no_leaves H)

-- a height at which there are runs is below 64
pub below_64 : (n height left : ℕ) → n < 2 ^ 64 → left ≡ n / 2 ^ height → 0 < left → height < 64
below_64 n height left few is some = elim (cases_lt height 64) [
  | inl low ↦ low
  | inr high ↦
      let large : 2 ^ 64 ≤ 2 ^ height = pow_mono high in
      let none : n / 2 ^ height ≡ 0 = div-eq_of_lt (omega (arith, few, large)) in
      absurd (omega (arith, none, is, some))
]

-- half of the runs
pub half_runs : (n height left : ℕ) → left ≡ n / 2 ^ height → left / 2 ≡ n / 2 ^ (height + 1)
half_runs n height left is = ap (λ c. c / 2) is ∙ div-div-eq-div-mul n (2 ^ height) 2 ∙ ap (λ d. n / d) (sym (pow-add 2 height 1))
