-- Which words are changed.
use Rattle.std.proofs.Common.{◌≡◌, ℕ, ◌-◌, ◌/◌, ◌%◌, ◌<◌, ◌≤◌, List, [], ◌∷◌, true, false, inl, inr, nat_lt, slice_index, refl}
use Rattle.std.specs.Bool.{◌==◌}
use Rattle.std.proofs.lemmas.Bool.{eq-eqb, lt-ltb, le-ltb}
use Rattle.std.proofs.lemmas.Bool.Decides.{eqb_tells}
use Rattle.aes.specs.Schedule.{added_words, changed_word, rotated_word, round_constants, substituted_word}

neq-eqb : (a b : ℕ) → (a ≡ b → ⊥) → (a == b) ≡ false
neq-eqb a b apart = elim (eqb_tells a b) [ inl same ↦ absurd (apart same.1) | inr differ ↦ differ.0 ]

pub changed_first : (k i : ℕ) (before : List ℕ) → i % k ≡ 0
    → changed_word k i before
    ≡ added_words (substituted_word (rotated_word before)) (slice_index round_constants (i / k - 1) ∷ 0 ∷ 0 ∷ 0 ∷ [])
unfolding changed_word
changed_first k i before h =
    let yes : (i % k == 0) ≡ true = eq-eqb (i % k) 0 h in
    rw yes refl

pub changed_fourth : (k i : ℕ) (before : List ℕ) → (i % k ≡ 0 → ⊥) → 6 < k → i % k ≡ 4
    → changed_word k i before ≡ substituted_word before
unfolding changed_word
changed_fourth k i before h large four =
    let other : (i % k == 0) ≡ false = neq-eqb (i % k) 0 h in
    let wide : nat_lt 6 k ≡ true = lt-ltb 6 k large in
    let at : (i % k == 4) ≡ true = eq-eqb (i % k) 4 four in
    rw (other, wide, at) refl

pub unchanged_small : (k i : ℕ) (before : List ℕ) → (i % k ≡ 0 → ⊥) → k ≤ 6 → before ≡ changed_word k i before
unfolding changed_word
unchanged_small k i before h small =
    let other : (i % k == 0) ≡ false = neq-eqb (i % k) 0 h in
    let narrow : nat_lt 6 k ≡ false = le-ltb 6 k small in
    rw (other, narrow) refl

pub unchanged_other : (k i : ℕ) (before : List ℕ) → (i % k ≡ 0 → ⊥) → 6 < k → (i % k ≡ 4 → ⊥)
    → before ≡ changed_word k i before
unfolding changed_word
unchanged_other k i before h large four =
    let other : (i % k == 0) ≡ false = neq-eqb (i % k) 0 h in
    let wide : nat_lt 6 k ≡ true = lt-ltb 6 k large in
    let at : (i % k == 4) ≡ false = neq-eqb (i % k) 4 four in
    rw (other, wide, at) refl
