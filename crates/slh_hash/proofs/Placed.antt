-- Places of a list that are set one by one.
use Rattle.std.proofs.Common.{◌≡◌, ◌≢◌, ℕ, ◌+◌, ◌<◌, ◌∙◌, List, ◌++◌, length, slice_index, take, ap, arith, sym, subst, get_or, set, inl, inr}
use Rattle.std.proofs.lemmas.List.{get_or-set_same, get_or-set_other}
use Rattle.std.proofs.lemmas.Bool.{cases_lt}
use Rattle.slh_core.specs.Bytes.{part}

-- what holds of each place holds of one more that is set
pub one_more : {X : Type 0} (P : ℕ → X → Type 0) (xs : List X) (k : ℕ) (x d : X) → k < length xs
    → ((i : ℕ) → i < k → P i (get_or xs i d)) → P k x → (i : ℕ) → i < k + 1 → P i (get_or (set xs k x) i d)
one_more P xs k x d fits before here i below = elim (cases_lt i k) [
  | inl inside ↦ (let apart : i ≢ k = omega arith in
      subst (P i) (sym (get_or-set_other xs k i x d apart)) (before i inside))
  | inr past ↦ (let last : k ≡ i = omega arith in
      subst (λ j. P j (get_or (set xs k x) j d)) last (subst (P k) (sym (get_or-set_same xs k x d fits)) here))
]

-- a tail, from what its calls answer: an address of the row, and a part of the inputs
pub tail_made : (head : List ℕ → List ℕ) (at : ℕ → List ℕ) (w i k : ℕ) (numbers inputs address input tail : List ℕ) → length input ≡ w
    → take (22 + length input) tail ≡ head address ++ input → address ≡ at (slice_index numbers i) → input ≡ part w inputs i → i ≡ k
    → take (22 + w) tail ≡ head (at (slice_index numbers k)) ++ part w inputs k
tail_made head at w i k numbers inputs address input tail size made named cut place =
    ap (λ q. take (22 + q) tail) (sym size)
    ∙ made
    ∙ ap (λ b. head b ++ input) named
    ∙ ap (λ xs. head (at (slice_index numbers i)) ++ xs) cut
    ∙ ap (λ j. head (at (slice_index numbers j)) ++ part w inputs j) place
