-- What a store keeps are the levels of full pairs, and a tree's levels are made from them.
use Rattle.std.proofs.Common.{◌≡◌, ℕ, zero, suc, ◌+◌, ◌-◌, ◌*◌, ◌/◌, ◌%◌, ◌^◌, ◌<◌, ◌≤◌, List, [], ◌∷◌, ◌++◌, length, take, drop, get_or, Option, None, Some, refl, sym, ap, ◌∙◌, arith, length-take, length-drop, length-append, append_assoc}
use Rattle.std.proofs.Math.Nat.{pow-suc}
use Rattle.std.proofs.lemmas.Nat.{pow_pos}
use Rattle.std.proofs.lemmas.List.{append-nil, drop_all, drop_at, drop_more, get_or-take, get_or_append_left, take_more}
use Rattle.merkle_tree.proofs.Climbing.{pair_up-append}
use Rattle.merkle_tree.proofs.Halves.{tree_half}
use Rattle.merkle_tree.proofs.Pairs.{drop-full_pairs, length-full_pairs, pair_up-even, take-full_pairs}
use Rattle.merkle_tree.proofs.Splitting.{one_leaf}
use Rattle.merkle_tree.proofs.Ways.{enough, tree_any}
use Rattle.merkle_tree.specs.Levels.{full_pairs, pair_up}
use Rattle.merkle_tree.specs.Tree.{node_hash, tree_root, tree_within}
use Rattle.merkle_store.specs.Nodes.{IsLevel, full_level, node_list, run_root}
use Rattle.merkle_tree.specs.Hashes.{HashFunction}

-- a node is over a whole run
pub inside_full : (H : HashFunction) (h i : ℕ) (q : List (List ℕ)) → i < length (full_level H h q) → (i + 1) * 2 ^ h ≤ length q
unfolding full_level
inside_full H zero i q inside = omega arith
inside_full H (suc h) i q inside =
    let below = inside_full H h i (full_pairs H q) inside in
    let twice : (i + 1) * 2 ^ suc h ≡ 2 * ((i + 1) * 2 ^ h) = rw (pow-suc 2 h) (omega arith) in
    omega (arith, length-full_pairs H q)

above_full : (H : HashFunction) (h : ℕ) (q : List (List ℕ)) → full_level H (suc h) q ≡ full_pairs H (full_level H h q)
unfolding full_level
above_full H zero q = refl
above_full H (suc h) q = above_full H h (full_pairs H q)

-- a run of twice as many digests, at twice the place, one level up
half_of : (H : HashFunction) (h a b : ℕ) (q : List (List ℕ)) → b ≡ 2 * a → b + 2 ^ suc h ≤ length q
    → tree_root H (take (2 ^ suc h) (drop b q)) ≡ tree_root H (take (2 ^ h) (drop a (full_pairs H q)))
half_of H h a b q place inside =
    let s = 2 ^ h in
    let twice : 2 ^ suc h ≡ 2 * s = pow-suc 2 h ∙ omega arith in
    let run = take (2 ^ suc h) (drop b q) in
    let size : length run ≡ 2 * s = omega (arith, length-take (2 ^ suc h) (drop b q), length-drop b q) in
    let pairs : full_pairs H run ≡ take s (drop a (full_pairs H q))
    = sym (take-full_pairs H s (2 ^ suc h) (drop b q) twice (omega (arith, length-drop b q))) ∙ ap (take s) (sym (drop-full_pairs H a b q place (omega arith))) in
    let above = take s (drop a (full_pairs H q)) in
    tree_any H (length run) (suc h) run (enough (length run)) (omega arith)
    ∙ tree_half H h run (omega (arith, pow_pos h)) (omega arith)
    ∙ ap (tree_within H h) (pair_up-even H s run size ∙ pairs)
    ∙ tree_any H h (length above) above (omega (arith, length-take s (drop a (full_pairs H q)))) (enough (length above))

run_half : (H : HashFunction) (h i : ℕ) (q : List (List ℕ)) → (i + 1) * 2 ^ suc h ≤ length q → run_root H (suc h) i q ≡ run_root H h i (full_pairs H q)
run_half H h i q inside =
    let place : i * 2 ^ suc h ≡ 2 * (i * 2 ^ h) = rw (pow-suc 2 h) (omega arith) in
    half_of H h (i * 2 ^ h) (i * 2 ^ suc h) q place (omega arith)

pub node_is : (H : HashFunction) (h i : ℕ) (q : List (List ℕ)) → i < length (full_level H h q) → run_root H h i q ≡ get_or (full_level H h q) i []
unfolding full_level
node_is H zero i q inside =
    let place : i * 1 ≡ i = omega arith in
    ap (λ k. tree_root H (take 1 (drop k q))) place ∙ ap (λ r. tree_root H (take 1 r)) (drop_more q i [] inside) ∙ one_leaf H (get_or q i [])
node_is H (suc h) i q inside = run_half H h i q (inside_full H (suc h) i q inside) ∙ node_is H h i (full_pairs H q) inside

-- ---- the level above

alone : (H : HashFunction) (rest : Option (List ℕ)) → pair_up H (node_list rest) ≡ node_list rest
unfolding pair_up
alone H None = refl
alone H (Some x) = refl

above_even : (H : HashFunction) (k : ℕ) (f : List (List ℕ)) (rest : Option (List ℕ)) → 2 * k ≤ length f → pair_up H (take (2 * k) f ++ node_list rest) ≡ take k (full_pairs H f) ++ node_list rest
above_even H k f rest fits =
    let size : length (take (2 * k) f) ≡ 2 * k = omega (arith, length-take (2 * k) f) in
    pair_up-append H k (take (2 * k) f) (node_list rest) size
    ∙ ap (λ r. r ++ pair_up H (node_list rest)) (pair_up-even H k (take (2 * k) f) size ∙ sym (take-full_pairs H k (2 * k) f refl fits))
    ∙ ap (λ r. take k (full_pairs H f) ++ r) (alone H rest)

-- the last node of an odd number goes into the node behind them, or is handed up
abbrev pub joined : (H : HashFunction) → List ℕ → Option (List ℕ) → Option (List ℕ)
joined H x None = Some x
joined H x (Some e) = Some (node_hash H x e)

joins : (H : HashFunction) (x : List ℕ) (rest : Option (List ℕ)) → pair_up H (x ∷ node_list rest) ≡ node_list (joined H x rest)
unfolding pair_up
joins H x None = refl
joins H x (Some e) = refl

above_odd : (H : HashFunction) (k : ℕ) (f : List (List ℕ)) (rest : Option (List ℕ)) → 2 * k + 1 ≤ length f
    → pair_up H (take (2 * k + 1) f ++ node_list rest) ≡ take k (full_pairs H f) ++ node_list (joined H (get_or f (2 * k) []) rest)
above_odd H k f rest fits =
    let size : length (take (2 * k) f) ≡ 2 * k = omega (arith, length-take (2 * k) f) in
    let x = get_or f (2 * k) [] in
    let split : take (2 * k + 1) f ++ node_list rest ≡ take (2 * k) f ++ (x ∷ node_list rest)
    = ap (λ r. r ++ node_list rest) (take_more f (2 * k) [] (omega arith)) ∙ append_assoc (take (2 * k) f) (x ∷ []) (node_list rest) in
    ap (pair_up H) split ∙ pair_up-append H k (take (2 * k) f) (x ∷ node_list rest) size
    ∙ ap (λ r. r ++ pair_up H (x ∷ node_list rest)) (pair_up-even H k (take (2 * k) f) size ∙ sym (take-full_pairs H k (2 * k) f refl (omega arith)))
    ∙ ap (λ r. take k (full_pairs H f) ++ r) (joins H x rest)

pub rise_even : (H : HashFunction) (height whole : ℕ) (rest : Option (List ℕ)) (q level : List (List ℕ)) → whole % 2 ≡ 0 → IsLevel H height whole rest q level
    → IsLevel H (height + 1) (whole / 2) rest q (pair_up H level)
rise_even H height whole rest q level even l =
    let f = full_level H height q in
    let k = whole / 2 in
    let size : whole ≡ 2 * k = omega arith in
    let up : full_level H (height + 1) q ≡ full_pairs H f = ap (λ h. full_level H h q) (omega arith) ∙ above_full H height q in
    record {
      within = rw up (omega (arith, l.within, length-full_pairs H f));
      nodes = rw up (ap (pair_up H) l.nodes ∙ ap (λ w. pair_up H (take w f ++ node_list rest)) size ∙ above_even H k f rest (omega (arith, l.within)));
    }

pub rise_odd : (H : HashFunction) (height whole : ℕ) (rest : Option (List ℕ)) (q level : List (List ℕ)) → whole % 2 ≡ 1 → IsLevel H height whole rest q level
    → IsLevel H (height + 1) (whole / 2) (joined H (run_root H height (whole - 1) q) rest) q (pair_up H level)
rise_odd H height whole rest q level odd l =
    let f = full_level H height q in
    let k = whole / 2 in
    let size : whole ≡ 2 * k + 1 = omega arith in
    let last : whole - 1 ≡ 2 * k = omega arith in
    let up : full_level H (height + 1) q ≡ full_pairs H f = ap (λ h. full_level H h q) (omega arith) ∙ above_full H height q in
    let node : run_root H height (whole - 1) q ≡ get_or f (2 * k) [] = node_is H height (whole - 1) q (omega (arith, l.within)) ∙ ap (λ i. get_or f i []) last in
    record {
      within = rw up (omega (arith, l.within, length-full_pairs H f));
      nodes = rw (up, node) (ap (pair_up H) l.nodes ∙ ap (λ w. pair_up H (take w f ++ node_list rest)) size ∙ above_odd H k f rest (omega (arith, l.within)));
    }

pub rise_within : (H : HashFunction) (height whole : ℕ) (q : List (List ℕ)) → whole ≤ length (full_level H height q) → whole / 2 ≤ length (full_level H (height + 1) q)
rise_within H height whole q within =
    let up : full_level H (height + 1) q ≡ full_pairs H (full_level H height q) = ap (λ h. full_level H h q) (omega arith) ∙ above_full H height q in
    rw up (omega (arith, within, length-full_pairs H (full_level H height q)))

-- the leaves are a level
pub ground : (H : HashFunction) (n : ℕ) (q : List (List ℕ)) → n ≤ length q → IsLevel H 0 n None q (take n q)
unfolding full_level
ground H n q within = record { within = within; nodes = sym (append-nil (take n q)) }

pub ground_within : (H : HashFunction) (n : ℕ) (q : List (List ℕ)) → n ≤ length q → n ≤ length (full_level H 0 q)
unfolding full_level
ground_within H n q within = within

-- ---- a node of a level

pub read_whole : (H : HashFunction) (height whole i : ℕ) (rest : Option (List ℕ)) (q level : List (List ℕ)) → i < whole → IsLevel H height whole rest q level
    → node_list (Some (run_root H height i q)) ≡ take 1 (drop i level)
read_whole H height whole i rest q level inside l =
    let f = full_level H height q in
    let front = take whole f in
    let size : length front ≡ whole = omega (arith, length-take whole f, l.within) in
    let node : run_root H height i q ≡ get_or f i [] = node_is H height i q (omega (arith, l.within)) in
    let there : get_or (front ++ node_list rest) i [] ≡ get_or f i [] = get_or_append_left front (node_list rest) [] i (omega arith) ∙ get_or-take whole f i [] inside in
    rw (l.nodes, drop_more (front ++ node_list rest) i [] (omega (arith, length-append front (node_list rest))), there, node) refl

one : (rest : Option (List ℕ)) → node_list rest ≡ take 1 (node_list rest)
one None = refl
one (Some x) = refl

few : (rest : Option (List ℕ)) → length (node_list rest) ≤ 1
few None = omega arith
few (Some x) = omega arith

pub read_rest : (H : HashFunction) (height whole i : ℕ) (rest : Option (List ℕ)) (q level : List (List ℕ)) → i ≡ whole → IsLevel H height whole rest q level
    → node_list rest ≡ take 1 (drop i level)
read_rest H height whole i rest q level e l =
    let f = full_level H height q in
    let size : length (take whole f) ≡ i = omega (arith, length-take whole f, l.within) in
    rw (l.nodes, drop_at (take whole f) (node_list rest) i size) (one rest)

pub read_none : (H : HashFunction) (height whole i : ℕ) (rest : Option (List ℕ)) (q level : List (List ℕ)) → whole < i → IsLevel H height whole rest q level
    → [] ≡ take 1 (drop i level)
read_none H height whole i rest q level past l =
    let f = full_level H height q in
    let size : length (take whole f) ≡ whole = omega (arith, length-take whole f, l.within) in
    rw (l.nodes, drop_all i (take whole f ++ node_list rest) (omega (arith, length-append (take whole f) (node_list rest), few rest))) refl
