-- Paths and proofs are made on the way up through the levels of a tree.
use Rattle.std.proofs.Common.{◌≡◌, ◌≢◌, ℕ, ◌+◌, ◌-◌, ◌*◌, ◌/◌, ◌%◌, ◌^◌, ◌<◌, ◌≤◌, List, [], ◌++◌, length, take, drop, true, inl, inr, refl, sym, ap, ◌∙◌, arith, append_assoc}
use Rattle.std.proofs.Math.Pow.{pow_mono}
use Rattle.std.proofs.lemmas.Bool.{cases_lt}
use Rattle.std.proofs.lemmas.List.{drop_more}
use Rattle.merkle_tree.proofs.Growing.{differ, proof_all, same}
use Rattle.merkle_tree.proofs.Halves.{length-pair_up, path_half}
use Rattle.merkle_tree.proofs.Making.{proof_any, proof_half, proof_odd, seed_of}
use Rattle.merkle_tree.proofs.Ways.{enough, path_any}
use Rattle.merkle_tree.specs.Consistency.{consistency_proof, consistency_within}
use Rattle.merkle_tree.specs.Levels.{beside, pair_up}
use Rattle.merkle_tree.specs.Tree.{inclusion_path, path_within}
use Rattle.merkle_tree.specs.Hashes.{HashFunction}

pub half_len : (H : HashFunction) (q : List (List ℕ)) (last : ℕ) → length q ≡ last + 1 → length (pair_up H q) ≡ last / 2 + 1
half_len H q last size = omega (arith, length-pair_up H q)

path_up : (H : HashFunction) (q : List (List ℕ)) (i : ℕ) → i < length q → length q ≤ 2 ^ 64 → path_within H 64 q i ≡ take 1 (drop (beside i) q) ++ path_within H 64 (pair_up H q) (i / 2)
path_up H q i inside few =
    let size = length-pair_up H q in
    path_half H 63 q i inside few ∙ ap (λ r. take 1 (drop (beside i) q) ++ r) (path_any H 63 64 (pair_up H q) (i / 2) (omega arith) (omega arith))

-- a sibling is put, if there is one
pub sibling_put : (H : HashFunction) (q : List (List ℕ)) (at last : ℕ) (out sibling whole : List (List ℕ)) → length q ≡ last + 1 → at ≤ last → last < 2 ^ 64
    → sibling ≡ take 1 (drop (beside at) q) → out ++ path_within H 64 q at ≡ whole
    → (out ++ sibling) ++ path_within H 64 (pair_up H q) (at / 2) ≡ whole
sibling_put H q at last out sibling whole size inside few is so_far =
    let rest = path_within H 64 (pair_up H q) (at / 2) in
    append_assoc out sibling rest ∙ ap (λ r. out ++ r) (ap (λ r. r ++ rest) is ∙ sym (path_up H q at (omega arith) (omega arith))) ∙ so_far

pub path_none : (H : HashFunction) (q : List (List ℕ)) (i : ℕ) → length q ≡ 1 → path_within H 64 q i ≡ []
unfolding path_within
path_none H q i one = path_any H 64 0 q i (omega arith) (omega arith)

pub path_is : (H : HashFunction) (q : List (List ℕ)) (i : ℕ) → length q ≤ 2 ^ 64 → path_within H 64 q i ≡ inclusion_path H q i
path_is H q i few = path_any H 64 (length q) q i few (enough (length q))

-- ---- proofs of growth

pub proof_up : (H : HashFunction) (q p : List (List ℕ)) (at m : ℕ) → at % 2 ≡ 1 → at + 1 < length q → length q ≤ 2 ^ 64
    → consistency_within H 64 q (at + 1) true ≡ consistency_within H 64 p m true
    → consistency_within H 64 (pair_up H q) (at / 2 + 1) true ≡ consistency_within H 64 p m true
proof_up H q p at m odd inside few so_far =
    let size = length-pair_up H q in
    proof_any H 64 63 (at / 2 + 1) (pair_up H q) true (omega arith) (omega arith) (omega arith)
    ∙ sym (proof_half H 63 (at + 1) (at / 2 + 1) q true (omega arith) (omega arith) (omega arith) few) ∙ so_far

proof_top : (H : HashFunction) (q p : List (List ℕ)) (at m : ℕ) → at % 2 ≡ 0 → at + 1 < length q → length q ≤ 2 ^ 64 → m ≤ length p → length p ≤ 2 ^ 64
    → consistency_within H 64 q (at + 1) true ≡ consistency_within H 64 p m true
    → seed_of true at q ++ path_within H 64 q at ≡ consistency_proof H p m
proof_top H q p at m even inside few within small so_far =
    let place : 2 * (at / 2) ≡ at = omega arith in
    let top : consistency_within H 64 q (at + 1) true ≡ seed_of true at q ++ path_within H 64 q at = proof_odd H 64 (at + 1) (at / 2) q true (omega arith) (inl inside) (omega arith) few ∙ rw place refl in
    sym top ∙ so_far ∙ proof_any H 64 (length p) m p true within small (enough (length p))

pub made_part : (H : HashFunction) (q p : List (List ℕ)) (at m : ℕ) (out seed : List (List ℕ)) → at % 2 ≡ 0 → at + 1 < length q → length q ≤ 2 ^ 64 → m ≤ length p → length p ≤ 2 ^ 64
    → consistency_within H 64 q (at + 1) true ≡ consistency_within H 64 p m true → at ≢ 0 → seed ≡ take 1 (drop at q)
    → (out ++ seed) ++ path_within H 64 q at ≡ out ++ consistency_proof H p m
made_part H q p at m out seed even inside few within small so_far later is =
    let path = path_within H 64 q at in
    let front : seed ≡ seed_of true at q = is ∙ rw (differ at 0 later, drop_more q at [] (omega arith)) refl in
    append_assoc out seed path ∙ ap (λ r. out ++ r) (ap (λ r. r ++ path) front ∙ proof_top H q p at m even inside few within small so_far)

pub made_whole : (H : HashFunction) (q p : List (List ℕ)) (at m : ℕ) (out : List (List ℕ)) → at % 2 ≡ 0 → at + 1 < length q → length q ≤ 2 ^ 64 → m ≤ length p → length p ≤ 2 ^ 64
    → consistency_within H 64 q (at + 1) true ≡ consistency_within H 64 p m true → at ≡ 0
    → out ++ path_within H 64 q at ≡ out ++ consistency_proof H p m
made_whole H q p at m out even inside few within small so_far first =
    let path = path_within H 64 q at in
    let none : seed_of true at q ≡ [] = rw (same at 0 first) refl in
    ap (λ r. out ++ r) (ap (λ r. r ++ path) (sym none) ∙ proof_top H q p at m even inside few within small so_far)

-- a tree that didn't grow has an empty proof
pub made_none : (H : HashFunction) (q : List (List ℕ)) (m : ℕ) → m ≡ length q → consistency_proof H q m ≡ []
made_none H q m all = proof_all H (length q) q m true all

-- ---- heights

-- a level above which there is another isn't the highest of all
pub not_top : (height last : ℕ) → height ≤ 64 → last < 2 ^ (64 - height) → 0 < last → height < 64
not_top height last high few some = elim (cases_lt height 64) [
  | inl below ↦ below
  | inr top ↦ (let none : 64 - height ≡ 0 = omega arith in let one : last < 2 ^ 0 = rw none at few in absurd (omega arith))
]

pub few_at : (height last : ℕ) → last < 2 ^ (64 - height) → last < 2 ^ 64
few_at height last few =
    let less : 64 - height ≤ 64 = omega arith in
    let small : 2 ^ (64 - height) ≤ 2 ^ 64 = pow_mono less in
    omega arith
