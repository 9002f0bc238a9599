-- The numbers of parts, one after the other.
use Rattle.std.proofs.Common.{◌≡◌, ℕ, zero, suc, ◌+◌, ◌<◌, List, [], ◌∷◌, ◌++◌, length, take, get_or, Option, None, Some, refl, sym, ◌∙◌, ap, arith, slice_set}
use Rattle.std.proofs.lemmas.List.{take_more, take_more_set}
use Rattle.line_serve.specs.Decimals.{number_value}
use Rattle.line_serve.specs.Fields.{for_some}
use Rattle.slh_ring.specs.PathTexts.{all_numbers}

behind : (xs : List (List ℕ)) (text ns : List ℕ) (x y : ℕ)
    → ((ms : List ℕ) → all_numbers xs ≡ Some ms → all_numbers (xs ++ text ∷ []) ≡ Some (ms ++ x ∷ []))
    → (rest : Option (List ℕ)) → all_numbers xs ≡ rest
    → for_some rest (λ rest. Some (y ∷ rest)) ≡ Some ns
    → for_some (all_numbers (xs ++ text ∷ [])) (λ rest. Some (y ∷ rest)) ≡ Some (ns ++ x ∷ [])
behind xs text ns x y later None is front = cc
behind xs text ns x y later (Some ms) is front =
    let same : y ∷ ms ≡ ns = cc in
    ap (λ o. for_some o (λ rest. Some (y ∷ rest))) (later ms is) ∙ ap (λ l. Some (l ++ x ∷ [])) same

-- one number more
first_then : (first : Option ℕ) (xs : List (List ℕ)) (text ns : List ℕ) (x : ℕ)
    → ((ms : List ℕ) → all_numbers xs ≡ Some ms → all_numbers (xs ++ text ∷ []) ≡ Some (ms ++ x ∷ []))
    → for_some first (λ y. for_some (all_numbers xs) (λ rest. Some (y ∷ rest))) ≡ Some ns
    → for_some first (λ y. for_some (all_numbers (xs ++ text ∷ [])) (λ rest. Some (y ∷ rest))) ≡ Some (ns ++ x ∷ [])
first_then None xs text ns x later front = cc
first_then (Some y) xs text ns x later front = behind xs text ns x y later (all_numbers xs) refl front

numbers_push : (xs : List (List ℕ)) (text ns : List ℕ) (x : ℕ) → number_value text ≡ Some x
    → all_numbers xs ≡ Some ns → all_numbers (xs ++ text ∷ []) ≡ Some (ns ++ x ∷ [])
numbers_push [] text ns x is front =
    let none : [] ≡ ns = cc in
    ap (λ o. for_some o (λ number. Some (number ∷ []))) is ∙ ap (λ l. Some (l ++ x ∷ [])) none
numbers_push (first ∷ xs) text ns x is front =
    first_then (number_value first) xs text ns x (λ ms same. numbers_push xs text ms x is same) front

pub numbers_more : (all : List (List ℕ)) (out text : List ℕ) (i x : ℕ) → i < length out → i < length all
    → text ≡ get_or all i text → number_value text ≡ Some x
    → all_numbers (take i all) ≡ Some (take i out)
    → all_numbers (take (i + 1) all) ≡ Some (take (i + 1) (slice_set out i x))
numbers_more all out text i x room some here is front =
    ap all_numbers (take_more all i text some) ∙ ap (λ t. all_numbers (take i all ++ t ∷ [])) (sym here)
    ∙ numbers_push (take i all) text (take i out) x is front ∙ ap Some (sym (take_more_set out i x room))

-- a part that is no number
first_none : (first : Option ℕ) (rest : Option (List ℕ)) → rest ≡ None
    → for_some first (λ y. for_some rest (λ rest. Some (y ∷ rest))) ≡ None
first_none None rest none = refl
first_none (Some y) rest none = ap (λ o. for_some o (λ rest. Some (y ∷ rest))) none

pub numbers_none : (all : List (List ℕ)) (text : List ℕ) (i : ℕ) → i < length all
    → text ≡ get_or all i text → number_value text ≡ None → all_numbers all ≡ None
numbers_none [] text i some here none = absurd (omega (arith, some))
numbers_none (first ∷ xs) text zero some here none =
    ap (λ o. for_some o (λ number. for_some (all_numbers xs) (λ rest. Some (number ∷ rest)))) (ap number_value (sym here) ∙ none)
numbers_none (first ∷ xs) text (suc i) some here none =
    first_none (number_value first) (all_numbers xs) (numbers_none xs text i (omega (arith, some)) here none)
