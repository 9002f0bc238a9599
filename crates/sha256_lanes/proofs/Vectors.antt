-- A choice in each lane of vectors.
use Rattle.std.proofs.Common.{◌≡◌, ℕ, ◌<◌, ◌-◌, ◌%◌, ◌^◌, ◌∙◌, List, length, get_or, slice_index, ap, arith, refl, replicate, w32, Bool, true, false, cond, leb, map}
use Rattle.std.specs.Simd.Lanes.{zip2, sel_l, top}
use Rattle.std.proofs.lemmas.Simd.{get_or-zip2, length-zip2, get_or-replicate, get_or-sel_l, tops_compared}

cond_mod : (b : Bool) (x y : ℕ) → cond b x y % 2 ^ 32 ≡ cond b (x % 2 ^ 32) (y % 2 ^ 32)
cond_mod true x y = refl
cond_mod false x y = refl

-- lane j of a choice by comparing digits with q
pub lane-chosen : (digits : List ℕ) (q : ℕ) (new old : List ℕ) (j : ℕ) → length digits ≡ 8 → length new ≡ 8 → length old ≡ 8 → j < 8
    → slice_index (sel_l (map (top 31) (zip2 (λ (a b : ℕ). cond (leb a b) (2 ^ 32 - 1) 0) digits (replicate 8 q))) new old) j % 2 ^ 32
    ≡ cond (leb (slice_index digits j) q) (slice_index new j % 2 ^ 32) (slice_index old j % 2 ^ 32)
lane-chosen digits q new old j ld ln lo h =
    let all : List ℕ = replicate 8 q in
    let count : length all ≡ 8 = refl in
    let tests : List Bool = zip2 leb digits all in
    let few : length tests ≡ 8 = length-zip2 leb digits all (omega arith) ∙ ld in
    let at : get_or tests j false ≡ leb (slice_index digits j) q =
    get_or-zip2 leb digits all j 0 0 false (omega arith) (omega arith) ∙ ap (leb (slice_index digits j)) (get_or-replicate 8 j q 0 h) in
    rw (tops_compared w32 leb digits all, get_or-sel_l tests new old j 0 (omega arith) (omega arith) (omega arith), at)
    (cond_mod (leb (slice_index digits j) q) (slice_index new j) (slice_index old j))
