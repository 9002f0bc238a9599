-- A search for a mark, from one place to the next.
use Rattle.std.proofs.Common.{◌≡◌, ℕ, ◌+◌, ◌<◌, ◌≤◌, List, ◌∷◌, length, drop, true, false, nat_eq, Option, None, Some, refl, ◌∙◌, ap, arith, option_map}
use Rattle.std.proofs.lemmas.List.{drop_all, drop_more}
use Rattle.std.specs.List.{starts_with}
use Rattle.slh_bytes.specs.Places.{first_place}

-- a place in the rest of a text, as one of the text
abbrev pub moved : ℕ → Option ℕ → Option ℕ
moved at found = option_map (λ k. k + at) found

pub not_moved : (found : Option ℕ) → found ≡ moved 0 found
not_moved None = refl
not_moved (Some k) = ap Some (omega arith)

moved_once : (at : ℕ) (found : Option ℕ) → moved at (option_map (λ k. k + 1) found) ≡ moved (at + 1) found
moved_once at None = refl
moved_once at (Some k) = ap Some (omega arith)

missed : (mark : List ℕ) (x : ℕ) (rest : List ℕ) → starts_with nat_eq (x ∷ rest) mark ≡ false
    → first_place mark (x ∷ rest) ≡ option_map (λ k. k + 1) (first_place mark rest)
missed mark x rest failed = rw failed refl

met : (mark : List ℕ) (x : ℕ) (rest : List ℕ) → starts_with nat_eq (x ∷ rest) mark ≡ true → first_place mark (x ∷ rest) ≡ Some 0
met mark x rest passed = rw passed refl

pub searched_on : (mark text : List ℕ) (at : ℕ) → at < length text → starts_with nat_eq (drop at text) mark ≡ false
    → moved at (first_place mark (drop at text)) ≡ moved (at + 1) (first_place mark (drop (at + 1) text))
searched_on mark text at below failed =
    let next = drop_more text at 0 below in
    let here = rw next at failed in
    ap (λ (rest : List ℕ). moved at (first_place mark rest)) next ∙ ap (moved at) (missed mark _ _ here)
    ∙ moved_once at (first_place mark (drop (at + 1) text))

pub found_here : (mark text : List ℕ) (at : ℕ) → at < length text → starts_with nat_eq (drop at text) mark ≡ true
    → moved at (first_place mark (drop at text)) ≡ Some at
found_here mark text at below passed =
    let next = drop_more text at 0 below in
    let here = rw next at passed in
    ap (λ (rest : List ℕ). moved at (first_place mark rest)) next ∙ ap (moved at) (met mark _ _ here) ∙ ap Some (omega arith)

pub found_nowhere : (mark text : List ℕ) (at : ℕ) → length text ≤ at → moved at (first_place mark (drop at text)) ≡ None
found_nowhere mark text at past = ap (λ (rest : List ℕ). moved at (first_place mark rest)) (drop_all at text past)
