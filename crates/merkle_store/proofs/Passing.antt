-- What a store that tells gives passes the check.
use Rattle.std.proofs.Common.{◌≡◌, ℕ, ◌<◌, ◌≤◌, List, [], length, take, get_or, true, sym, ap, ◌∙◌, arith, length-take}
use Rattle.std.proofs.lemmas.List.{get_or-take, take-take}
use Rattle.merkle_tree.proofs.Equations.{proof_checks}
use Rattle.merkle_tree.proofs.Included.{path_checks}
use Rattle.merkle_tree.specs.Climb.{is_included}
use Rattle.merkle_tree.specs.Consistency.{consistency_proof, is_consistent}
use Rattle.merkle_tree.specs.Hashes.{HashFunction}
use Rattle.merkle_tree.specs.Tree.{inclusion_path, tree_root}

pub path_passes : (H : HashFunction) (i n : ℕ) (leaf root : List ℕ) (path q : List (List ℕ)) → i < n → n ≤ length q → leaf ≡ get_or q i [] → root ≡ tree_root H (take n q)
    → path ≡ inclusion_path H (take n q) i → is_included H i n leaf root path ≡ true
path_passes H i n leaf root path q inside within leaf_is root_is path_is =
    let p = take n q in
    let size : n ≡ length p = omega (arith, length-take n q, within) in
    let there : leaf ≡ get_or p i [] = leaf_is ∙ sym (get_or-take n q i [] inside) in
    ap (λ k. is_included H i k leaf root path) size
    ∙ ap (λ x. is_included H i (length p) x root path) there
    ∙ ap (λ r. is_included H i (length p) (get_or p i []) r path) root_is
    ∙ ap (λ t. is_included H i (length p) (get_or p i []) (tree_root H p) t) path_is
    ∙ path_checks H i p (omega (arith, size, inside))

pub proof_passes : (H : HashFunction) (m n : ℕ) (old root : List ℕ) (proof q : List (List ℕ)) → 0 < m → m ≤ n → n ≤ length q → old ≡ tree_root H (take m q) → root ≡ tree_root H (take n q)
    → proof ≡ consistency_proof H (take n q) m → is_consistent H m n old root proof ≡ true
proof_passes H m n old root proof q some more within old_is root_is proof_is =
    let p = take n q in
    let size : n ≡ length p = omega (arith, length-take n q, within) in
    let front : take m q ≡ take m p = sym (take-take m n q more) in
    let there : old ≡ tree_root H (take m p) = old_is ∙ ap (tree_root H) front in
    ap (λ k. is_consistent H m k old root proof) size
    ∙ ap (λ x. is_consistent H m (length p) x root proof) there
    ∙ ap (λ r. is_consistent H m (length p) (tree_root H (take m p)) r proof) root_is
    ∙ ap (λ t. is_consistent H m (length p) (tree_root H (take m p)) (tree_root H p) t) proof_is
    ∙ proof_checks H m p some (omega (arith, size, more))
