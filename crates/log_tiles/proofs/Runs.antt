-- Roots over runs: those of a level are made from those of a level below, and stay as the list grows.
use Rattle.std.proofs.Common.{◌≡◌, ℕ, zero, suc, ◌+◌, ◌*◌, ◌/◌, ◌^◌, ◌<◌, ◌≤◌, List, [], ◌++◌, length, take, drop, get_or, inl, inr, sym, ap, ◌∙◌, arith, length-take, length-drop}
use Rattle.std.proofs.Math.Nat.{pow-suc, div-lt_iff_lt-mul}
use Rattle.std.proofs.lemmas.Bool.{cases_lt}
use Rattle.std.proofs.lemmas.List.{ext_get_or, get_or-take, get_or-drop, drop-append-le, take-append-le}
use Rattle.merkle_tree.proofs.Pairs.{length-full_pairs}
use Rattle.merkle_tree.specs.Hashes.{HashFunction}
use Rattle.merkle_tree.specs.Levels.{full_pairs}
use Rattle.merkle_tree.specs.Tree.{tree_root}
use Rattle.merkle_store.proofs.Stored.{inside_full, node_is}
use Rattle.merkle_store.specs.Nodes.{full_level, run_root}

-- the levels above a level
full_add : (H : HashFunction) (h k : ℕ) (q : List (List ℕ)) → full_level H (h + k) q ≡ full_level H k (full_level H h q)
unfolding full_level
full_add H zero k q =
    let none : 0 + k ≡ k = omega arith in
    ap (λ n. full_level H n q) none
full_add H (suc h) k q =
    let one : suc h + k ≡ suc (h + k) = omega arith in
    ap (λ n. full_level H n q) one ∙ full_add H h k (full_pairs H q)

-- a whole run has its node
inside_run : (H : HashFunction) (h i : ℕ) (q : List (List ℕ)) → (i + 1) * 2 ^ h ≤ length q → i < length (full_level H h q)
unfolding full_level
inside_run H zero i q inside = omega (arith, inside)
inside_run H (suc h) i q inside =
    let twice : (i + 1) * 2 ^ suc h ≡ 2 * ((i + 1) * 2 ^ h) = rw (pow-suc 2 h) (omega arith) in
    inside_run H h i (full_pairs H q) (omega (arith, inside, twice, length-full_pairs H q))

-- a root over a run is that over roots over shorter runs
pub run_up : (H : HashFunction) (h k i : ℕ) (q : List (List ℕ)) → (i + 1) * 2 ^ (h + k) ≤ length q
    → run_root H (h + k) i q ≡ run_root H k i (full_level H h q)
run_up H h k i q inside =
    let here : i < length (full_level H (h + k) q) = inside_run H (h + k) i q inside in
    let above : i < length (full_level H k (full_level H h q)) = rw (← full_add H h k q) here in
    node_is H (h + k) i q here ∙ ap (λ l. get_or l i []) (full_add H h k q) ∙ sym (node_is H k i (full_level H h q) above)

-- the root over hashes that are the roots over the runs of a longer run
pub row_root : (H : HashFunction) (h k i : ℕ) (q row : List (List ℕ)) → (i + 1) * 2 ^ (h + k) ≤ length q → length row ≡ 2 ^ k
    → ((x : ℕ) → x < 2 ^ k → get_or row x [] ≡ run_root H h (i * 2 ^ k + x) q) → tree_root H row ≡ run_root H (h + k) i q
row_root H h k i q row inside size is =
    let f = full_level H h q in
    let above : i < length (full_level H k f) = rw (← full_add H h k q) (inside_run H (h + k) i q inside) in
    let fits : (i + 1) * 2 ^ k ≤ length f = inside_full H k i f above in
    let run = take (2 ^ k) (drop (i * 2 ^ k) f) in
    let long : length run ≡ 2 ^ k = omega (arith, fits, length-take (2 ^ k) (drop (i * 2 ^ k) f), length-drop (i * 2 ^ k) f) in
    let same : row ≡ run = ext_get_or [] row run (size ∙ sym long) (λ x inside_row.
    let small : x < 2 ^ k = omega (arith, inside_row, size) in
    is x small ∙ node_is H h (i * 2 ^ k + x) q (omega (arith, fits, small))
    ∙ sym (get_or-drop (i * 2 ^ k) f x []) ∙ sym (get_or-take (2 ^ k) (drop (i * 2 ^ k) f) x [] small)) in
    ap (tree_root H) same ∙ sym (run_up H h k i q inside)

-- more digests change no root over a whole run
pub run_same : (H : HashFunction) (h i : ℕ) (q more : List (List ℕ)) → (i + 1) * 2 ^ h ≤ length q → run_root H h i (q ++ more) ≡ run_root H h i q
run_same H h i q more inside =
    let p = 2 ^ h in
    ap (λ l. tree_root H (take p l)) (drop-append-le (i * p) q more (omega (arith, inside)))
    ∙ ap (tree_root H) (take-append-le p (drop (i * p) q) more (omega (arith, inside, length-drop (i * p) q)))

-- a hash that a level has is over a whole run
pub run_inside : (i n p : ℕ) → 0 < p → i < n / p → (i + 1) * p ≤ n
run_inside i n p some inside = elim (cases_lt n ((i + 1) * p)) [
  | inl less ↦ (let below : n / p < i + 1 = (div-lt_iff_lt-mul some).1 less in absurd (omega (arith, inside, below)))
  | inr more ↦ more
]
