-- The first clash of two lists of inputs, both ways.
use Rattle.std.proofs.Common.{◌≡◌, ◌≢◌, ℕ, ◌+◌, ◌<◌, List, [], ◌∷◌, length, get_or, true, false, Option, Some, None, refl, sym, ap, ◌∙◌, arith, inl, inr}
use Rattle.std.specs.Bool.{Decides}
use Rattle.std.proofs.lemmas.Bool.{cases_Bool, cases_lt}
use Rattle.std.proofs.lemmas.Bool.Decides.{Decides-and, Decides-not}
use Rattle.std.proofs.lemmas.Slice.Eq.{bytes_eq-Decides}
use Rattle.merkle_tree.proofs.Least.{at_first, before_first, nowhere}
use Rattle.merkle_tree.specs.Clashes.{clash_place, clashes, raised}
use Rattle.merkle_tree.specs.Hashes.{HashFunction}

-- at place h of both lists, two different inputs have one digest
pub record At (H : HashFunction) (xs ys : List (List ℕ)) (h : ℕ) : Type 0 where
  pub first_has : h < length xs
  pub second_has : h < length ys
  pub differ : get_or xs h [] ≢ get_or ys h []
  pub digest : H (get_or xs h []) ≡ H (get_or ys h [])

-- there, and at no place before
pub record First (H : HashFunction) (xs ys : List (List ℕ)) (h : ℕ) : Type 0 where
  pub here : At H xs ys h
  pub none_below : (k : ℕ) → k < h → At H xs ys k → ⊥

clashes-Decides : (H : HashFunction) (x y : List ℕ) → Decides (clashes H x y) ((x ≢ y) × (H x ≡ H y))
clashes-Decides H x y = Decides-and _ _ (Decides-not _ (bytes_eq-Decides x y)) (bytes_eq-Decides (H x) (H y))

at_clashes : (H : HashFunction) (xs ys : List (List ℕ)) (h : ℕ) → At H xs ys h → clashes H (get_or xs h []) (get_or ys h []) ≡ true
at_clashes H xs ys h here = (clashes-Decides H (get_or xs h []) (get_or ys h [])).1 (here.differ, here.digest)

lowered : (o : Option ℕ) (h : ℕ) → raised o ≡ Some h → (k : ℕ) × (o ≡ Some k) × (h ≡ k + 1)
lowered None h is = absurd (cc)
lowered (Some k) h is = (k, refl, cc)

at_once : (H : HashFunction) (x y : List ℕ) (xs ys : List (List ℕ)) → clashes H x y ≡ true → clash_place H (x ∷ xs) (y ∷ ys) ≡ Some 0
unfolding clash_place
at_once H x y xs ys e = rw e refl

later : (H : HashFunction) (x y : List ℕ) (xs ys : List (List ℕ)) → clashes H x y ≡ false → clash_place H (x ∷ xs) (y ∷ ys) ≡ raised (clash_place H xs ys)
unfolding clash_place
later H x y xs ys e = rw e refl

-- a place is one of both lists
inside : (H : HashFunction) (xs ys : List (List ℕ)) (h : ℕ) → clash_place H xs ys ≡ Some h → (h < length xs) × (h < length ys)
unfolding clash_place
inside H [] ys h is = absurd (cc)
inside H (x ∷ xs) [] h is = absurd (cc)
inside H (x ∷ xs) (y ∷ ys) h is = elim (cases_Bool (clashes H x y)) [
  | inl e ↦ (let first : h ≡ 0 = cc (at_once H x y xs ys e) in (omega arith, omega arith))
  | inr e ↦ (let low = lowered (clash_place H xs ys) h (sym (later H x y xs ys e) ∙ is) in
      let below = inside H xs ys low.0 low.1 in
      (omega (arith, low.2, below.0), omega (arith, low.2, below.1)))
]

place_at : (H : HashFunction) (xs ys : List (List ℕ)) (h : ℕ) → clash_place H xs ys ≡ Some h → At H xs ys h
place_at H xs ys h is =
    let within = inside H xs ys h is in
    let one = (clashes-Decides H (get_or xs h []) (get_or ys h [])).0 (at_first H xs ys h is) in
    record { first_has = within.0; second_has = within.1; differ = one.0; digest = one.1 }

pub is_first : (H : HashFunction) (xs ys : List (List ℕ)) (h : ℕ) → clash_place H xs ys ≡ Some h → First H xs ys h
is_first H xs ys h is = record {
  here = place_at H xs ys h is;
  none_below = λ k below here. cc (at_clashes H xs ys k here, before_first H xs ys h k is below);
}

pub no_place : (H : HashFunction) (xs ys : List (List ℕ)) (h : ℕ) → clash_place H xs ys ≡ None → At H xs ys h → ⊥
no_place H xs ys h is here = cc (at_clashes H xs ys h here, nowhere H xs ys h is here.first_has here.second_has)

found : (H : HashFunction) (xs ys : List (List ℕ)) (h : ℕ) (o : Option ℕ) → clash_place H xs ys ≡ o → First H xs ys h → o ≡ Some h
found H xs ys h None is first = absurd (no_place H xs ys h is first.here)
found H xs ys h (Some k) is first = elim (cases_lt k h) [
  | inl low ↦ absurd (first.none_below k low (place_at H xs ys k is))
  | inr high ↦ elim (cases_lt h k) [
    | inl above ↦ absurd (cc (at_clashes H xs ys h first.here, before_first H xs ys k h is above))
    | inr same ↦ ap Some (omega arith)
  ]
]

pub place_of : (H : HashFunction) (xs ys : List (List ℕ)) (h : ℕ) → First H xs ys h → clash_place H xs ys ≡ Some h
place_of H xs ys h first = found H xs ys h (clash_place H xs ys) refl first

none : (H : HashFunction) (xs ys : List (List ℕ)) (o : Option ℕ) → clash_place H xs ys ≡ o → ((h : ℕ) → At H xs ys h → ⊥) → o ≡ None
none H xs ys None is nowhere = refl
none H xs ys (Some h) is nowhere = absurd (nowhere h (place_at H xs ys h is))

pub none_at : (H : HashFunction) (xs ys : List (List ℕ)) → ((h : ℕ) → At H xs ys h → ⊥) → clash_place H xs ys ≡ None
none_at H xs ys nowhere = none H xs ys (clash_place H xs ys) refl nowhere
