-- The first clash is the least.
use Rattle.std.proofs.Common.{◌≡◌, ℕ, zero, suc, ◌+◌, ◌<◌, List, [], ◌∷◌, length, get_or, true, false, Option, Some, None, refl, sym, ◌∙◌, arith, inl, inr}
use Rattle.std.proofs.lemmas.Bool.{cases_Bool}
use Rattle.merkle_tree.specs.Clashes.{clashes, clash_place, raised}
use Rattle.merkle_tree.specs.Hashes.{HashFunction}

-- what a raised height was raised from
lowered : (o : Option ℕ) (h : ℕ) → raised o ≡ Some h → (k : ℕ) × (o ≡ Some k) × (h ≡ k + 1)
lowered None h is = absurd (cc)
lowered (Some k) h is = (k, refl, cc)

unraised : (o : Option ℕ) → raised o ≡ None → o ≡ None
unraised None is = refl
unraised (Some k) is = absurd (cc)

here : (H : HashFunction) (x y : List ℕ) (xs ys : List (List ℕ)) → clashes H x y ≡ true → clash_place H (x ∷ xs) (y ∷ ys) ≡ Some 0
unfolding clash_place
here H x y xs ys e = rw e refl

later : (H : HashFunction) (x y : List ℕ) (xs ys : List (List ℕ)) → clashes H x y ≡ false → clash_place H (x ∷ xs) (y ∷ ys) ≡ raised (clash_place H xs ys)
unfolding clash_place
later H x y xs ys e = rw e refl

pub at_first : (H : HashFunction) (xs ys : List (List ℕ)) (h : ℕ) → clash_place H xs ys ≡ Some h → clashes H (get_or xs h []) (get_or ys h []) ≡ true
unfolding clash_place
at_first H [] ys h is = absurd (cc)
at_first H (x ∷ xs) [] h is = absurd (cc)
at_first H (x ∷ xs) (y ∷ ys) h is = elim (cases_Bool (clashes H x y)) [
  | inl e ↦ (let first : h ≡ 0 = cc (here H x y xs ys e) in rw first e)
  | inr e ↦ (let low = lowered (clash_place H xs ys) h (sym (later H x y xs ys e) ∙ is) in
      let next : h ≡ suc low.0 = omega (arith, low.2) in
      rw next (at_first H xs ys low.0 low.1))
]

pub before_first : (H : HashFunction) (xs ys : List (List ℕ)) (h k : ℕ) → clash_place H xs ys ≡ Some h → k < h → clashes H (get_or xs k []) (get_or ys k []) ≡ false
unfolding clash_place
before_first H [] ys h k is below = absurd (cc)
before_first H (x ∷ xs) [] h k is below = absurd (cc)
before_first H (x ∷ xs) (y ∷ ys) h zero is below = elim (cases_Bool (clashes H x y)) [
  | inl e ↦ (let first : h ≡ 0 = cc (here H x y xs ys e) in absurd (omega arith))
  | inr e ↦ e
]
before_first H (x ∷ xs) (y ∷ ys) h (suc k) is below = elim (cases_Bool (clashes H x y)) [
  | inl e ↦ (let first : h ≡ 0 = cc (here H x y xs ys e) in absurd (omega arith))
  | inr e ↦ (let low = lowered (clash_place H xs ys) h (sym (later H x y xs ys e) ∙ is) in
      before_first H xs ys low.0 k low.1 (omega (arith, low.2)))
]

pub nowhere : (H : HashFunction) (xs ys : List (List ℕ)) (k : ℕ) → clash_place H xs ys ≡ None → k < length xs → k < length ys → clashes H (get_or xs k []) (get_or ys k []) ≡ false
unfolding clash_place
nowhere H [] ys k is p q = absurd (omega arith)
nowhere H (x ∷ xs) [] k is p q = absurd (omega arith)
nowhere H (x ∷ xs) (y ∷ ys) zero is p q = elim (cases_Bool (clashes H x y)) [
  | inl e ↦ absurd (cc (here H x y xs ys e))
  | inr e ↦ e
]
nowhere H (x ∷ xs) (y ∷ ys) (suc k) is p q = elim (cases_Bool (clashes H x y)) [
  | inl e ↦ absurd (cc (here H x y xs ys e))
  | inr e ↦ nowhere H xs ys k (unraised (clash_place H xs ys) (sym (later H x y xs ys e) ∙ is)) (omega arith) (omega arith)
]
