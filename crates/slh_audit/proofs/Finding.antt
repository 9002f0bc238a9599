-- The search for the first evidence, place by place.
use Rattle.std.proofs.Common.{◌≡◌, inl, inr, ℕ, zero, suc, ◌+◌, ◌<◌, Bool, true, false, arith, refl, ◌∙◌, sym, add-one}
use Rattle.std.proofs.Common.{List, [], ◌∷◌, ◌++◌, Option, None, Some}
use Rattle.std.proofs.lemmas.Bool.{cases_lt, false≢true}
use Rattle.std.proofs.lemmas.List.Folds.{find-append}
use Rattle.std.specs.List.{find}
use Rattle.std.specs.Prelude.{is_some}
use Rattle.slh_audit.specs.Places.{in_turn}
use Rattle.slh_audit.specs.declared.evidence.Evidence.{Evidence}

none_of : (r : Option Evidence) → is_some r ≡ false → r ≡ None
none_of None fails = refl
none_of (Some e) fails = absurd (false≢true (sym fails))

module _ (test : Evidence → Bool) where
  pub after_none : (xs ys : List Evidence) → find test xs ≡ None → find test (xs ++ ys) ≡ find test ys
  after_none xs ys none = find-append test xs ys ∙ rw none refl

  pub after_some : (r : Option Evidence) (xs ys : List Evidence) → is_some r ≡ true → r ≡ find test xs → r ≡ find test (xs ++ ys)
  after_some None xs ys some same = absurd (false≢true some)
  after_some (Some e) xs ys some same = sym (find-append test xs ys ∙ rw (← same) refl)

  pub after_half : (r q : Option Evidence) (xs ys : List Evidence) → is_some r ≡ false → r ≡ find test xs → q ≡ find test ys → q ≡ find test (xs ++ ys)
  after_half r q xs ys fails same rest = rest ∙ sym (after_none xs ys (sym same ∙ none_of r fails))

  pub one_found : (b : Bool) (e : Evidence) → b ≡ true → b ≡ test e → Some e ≡ find test (e ∷ [])
  one_found b e holds same = rw (← same, holds) refl

  pub one_not : (b : Bool) (e : Evidence) → b ≡ false → b ≡ test e → find test (e ∷ []) ≡ None
  one_not b e fails same = rw (← same, fails) refl

  pub head_found : (b : Bool) (e : Evidence) (xs : List Evidence) → b ≡ true → b ≡ test e → Some e ≡ find test (e ∷ xs)
  head_found b e xs holds same = rw (← same, holds) refl

  pub head_not : (b : Bool) (e : Evidence) (xs : List Evidence) → b ≡ false → b ≡ test e → find test (e ∷ xs) ≡ find test xs
  head_not b e xs fails same = rw (← same, fails) refl

  pub turn_found : (r : Option Evidence) (f : ℕ → List Evidence) (k i : ℕ) → i < k → find test (in_turn f i) ≡ None → is_some r ≡ true → r ≡ find test (f i)
      → r ≡ find test (in_turn f k)
  unfolding in_turn
  turn_found r f zero i below none some same = absurd (omega arith)
  turn_found r f (suc k) i below none some same =
      elim (cases_lt i k) [
        | inl before ↦ after_some r (in_turn f k) (f k) some (turn_found r f k i before none some same)
        | inr past ↦ (let last : k ≡ i = omega arith in rw last (same ∙ sym (after_none (in_turn f i) (f i) none)))
      ]

  pub turn_next : (f : ℕ → List Evidence) (i : ℕ) → find test (in_turn f i) ≡ None → find test (f i) ≡ None → find test (in_turn f (i + 1)) ≡ None
  unfolding in_turn
  turn_next f i none more = rw add-one (after_none (in_turn f i) (f i) none ∙ more)

  pub turn_none : (f : ℕ → List Evidence) → find test (in_turn f 0) ≡ None
  unfolding in_turn
  turn_none f = refl

  pub turn_all_none : (f : ℕ → List Evidence) (k : ℕ) → ((i : ℕ) → i < k → find test (f i) ≡ None) → find test (in_turn f k) ≡ None
  unfolding in_turn
  turn_all_none f zero none = refl
  turn_all_none f (suc k) none =
      after_none (in_turn f k) (f k) (turn_all_none f k (λ i below. none i (omega arith))) ∙ none k (omega arith)

  pub not_some : (r : Option Evidence) (xs : List Evidence) → is_some r ≡ false → r ≡ find test xs → find test xs ≡ None
  not_some r xs fails same = sym same ∙ none_of r fails
