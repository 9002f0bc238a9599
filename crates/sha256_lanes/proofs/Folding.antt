-- One block after the other.
use Rattle.std.proofs.Common.{◌≡◌, ℕ, zero, suc, ◌+◌, ◌*◌, ◌≤◌, List, ◌++◌, length, take, drop, refl, ap, ◌∙◌, arith, length-drop}
use Rattle.std.proofs.lemmas.List.{drop-append-le, drop-drop, take-append-le}
use Rattle.sha256_lanes.specs.Sha256.{compress, fold_blocks}

-- the first block, and then the others
pub fold_blocks_first : (h p : List ℕ) (n : ℕ) → fold_blocks h p (suc n) ≡ fold_blocks (compress h (take 64 p)) (drop 64 p) n
unfolding fold_blocks
fold_blocks_first h p n = refl

-- one block more, at the end
pub fold_blocks_next : (h p : List ℕ) (n : ℕ) → fold_blocks h p (n + 1) ≡ compress (fold_blocks h p n) (take 64 (drop (64 * n) p))
unfolding fold_blocks
fold_blocks_next h p zero = refl
fold_blocks_next h p (suc n) =
    let up : suc n + 1 ≡ suc (n + 1) = omega arith in
    let place : 64 + 64 * n ≡ 64 * suc n = omega arith in
    rw up (fold_blocks_next (compress h (take 64 p)) (drop 64 p) n
    ∙ ap (λ (x : List ℕ). compress (fold_blocks h p (suc n)) (take 64 x)) (drop-drop (64 * n) 64 p ∙ ap (λ (k : ℕ). drop k p) place))

-- only the blocks that are counted matter
pub fold_blocks-append : (h p x : List ℕ) (n : ℕ) → 64 * n ≤ length p → fold_blocks h (p ++ x) n ≡ fold_blocks h p n
unfolding fold_blocks
fold_blocks-append h p x zero fits = refl
fold_blocks-append h p x (suc n) fits =
    rw (take-append-le 64 p x (omega arith), drop-append-le 64 p x (omega arith))
    (fold_blocks-append (compress h (take 64 p)) (drop 64 p) x n (omega (arith, length-drop 64 p)))

-- some blocks, and then the others
pub fold_blocks-add : (h p : List ℕ) (k n : ℕ) → fold_blocks h p (k + n) ≡ fold_blocks (fold_blocks h p k) (drop (64 * k) p) n
unfolding fold_blocks
fold_blocks-add h p zero n = let none : zero + n ≡ n = omega arith in rw none refl
fold_blocks-add h p (suc k) n =
    let count : suc k + n ≡ suc (k + n) = omega arith in
    let place : 64 + 64 * k ≡ 64 * suc k = omega arith in
    rw count (fold_blocks-add (compress h (take 64 p)) (drop 64 p) k n
    ∙ ap (λ (x : List ℕ). fold_blocks (fold_blocks h p (suc k)) x n) (drop-drop (64 * k) 64 p ∙ ap (λ (j : ℕ). drop j p) place))
