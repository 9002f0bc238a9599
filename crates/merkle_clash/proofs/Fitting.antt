-- Where the lengths fit, the answers are the definitions.
use Rattle.std.proofs.Common.{◌≡◌, ◌≢◌, ℕ, zero, suc, ◌<◌, ◌≤◌, List, [], ◌∷◌, length, true, false, inl, inr, Option, Some, None, refl, ◌∙◌, arith}
use Rattle.std.specs.Prelude.{◌==◌}
use Rattle.std.proofs.lemmas.Bool.{cases_Bool, le-ltb, lt-ltb}
use Rattle.std.proofs.lemmas.Bool.Decides.{Decides-eqb}
use Rattle.merkle_tree.proofs.Binding.{Found, clash_is, first_is}
use Rattle.merkle_tree.proofs.Growing.{differ, same}
use Rattle.merkle_tree.specs.Binding.{growth_clash, inclusion_clash, roots_clash, tree_pairs}
use Rattle.merkle_tree.specs.Clashes.{Inputs, first_clash}
use Rattle.merkle_tree.specs.Climb.{path_sides}
use Rattle.merkle_tree.specs.Consistency.{proof_len}
use Rattle.merkle_tree.specs.Hashes.{HashFunction}
use Rattle.merkle_clash.specs.Answers.{growth_answer, inclusion_answer, roots_answer}

pub not_empty : (n : ℕ) → (n == 0) ≡ false → 0 < n
not_empty zero e = absurd (cc e)
not_empty (suc n) e = omega arith

pub roots_fit : (H : HashFunction) (p q : List (List ℕ)) → length p ≡ length q → roots_answer H p q ≡ roots_clash H p q
roots_fit H p q e = rw (same (length p) (length q) e) refl

pub no_roots : (H : HashFunction) (p q : List (List ℕ)) → length p ≢ length q → roots_answer H p q ≡ None
no_roots H p q e = rw (differ (length p) (length q) e) refl

pub no_digests : (H : HashFunction) (p q : List (List ℕ)) → (length q == 0) ≡ true → roots_answer H p q ≡ None
unfolding first_clash tree_pairs
no_digests H p [] e = elim (cases_Bool (length p == 0)) [
  | inl none ↦ rw none refl
  | inr some ↦ rw some refl
]
no_digests H p (x ∷ q) e = let none : length (x ∷ q) ≡ 0 = (Decides-eqb (length (x ∷ q)) 0).0 e in absurd (omega arith)

pub growth_fits : (H : HashFunction) (p q proof : List (List ℕ)) → 0 < length p → length p ≤ length q → length proof ≡ proof_len (length p) (length q)
    → growth_answer H p q proof ≡ growth_clash H p q proof
growth_fits H p q proof some more size = rw (lt-ltb 0 (length p) some, le-ltb (length q) (length p) more, same (length proof) (proof_len (length p) (length q)) size) refl

pub no_growth : (H : HashFunction) (p q proof : List (List ℕ)) → 0 < length p → length p ≤ length q → length proof ≢ proof_len (length p) (length q)
    → growth_answer H p q proof ≡ None
no_growth H p q proof some more size = rw (lt-ltb 0 (length p) some, le-ltb (length q) (length p) more, differ (length proof) (proof_len (length p) (length q)) size) refl

pub inclusion_fits : (H : HashFunction) (q : List (List ℕ)) (i : ℕ) (x : List ℕ) (path : List (List ℕ)) → i < length q → length path ≡ length (path_sides i (length q))
    → inclusion_answer H q i x path ≡ inclusion_clash H q i x path
inclusion_fits H q i x path inside size = rw (lt-ltb i (length q) inside, same (length path) (length (path_sides i (length q))) size) refl

-- a clash that is answered is one
pub shows : (H : HashFunction) (o : Option Inputs) (ps : List Inputs) → o ≡ first_clash H ps → Found H ps
    → (c : Inputs) × (o ≡ Some c) × (c.first ≢ c.second) × (H c.first ≡ H c.second)
shows H o ps e found =
    let is = clash_is H found.0 (first_is H ps found.0 found.1) in
    (found.0, e ∙ found.1, is.0, is.1)
