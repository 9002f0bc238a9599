-- The fields of a line, part by part.
use Rattle.std.proofs.Common.{◌≡◌, ℕ, ◌+◌, ◌-◌, List, [], ◌∷◌, ◌++◌, Some, None, arith, ap, append_assoc, drop, filter, length, not, subst, sym, take, ◌∙◌}
use Rattle.std.specs.Bool.{◌==◌}
use Rattle.std.specs.List.{position, slice_split}
use Rattle.std.proofs.lemmas.List.Elements.{filter-append}
use Rattle.std.proofs.Math.Seq.{drop-drop}
use Rattle.line_serve.specs.Fields.{space}
use Rattle.line_serve.proofs.Found.{split_found, split_none}
use Rattle.line_serve.proofs.Fronts.{to_end}

-- the parts that have bytes
abbrev pub kept : List (List ℕ) → List (List ℕ)
kept parts = filter (λ part. not (length part == 0)) parts

-- the parts of what is left
abbrev pub parts_left : List ℕ → ℕ → List (List ℕ)
parts_left text done = slice_split (λ x. x == space) (drop done text)

-- one more part is looked at
pub cut_on : (old new all : List (List ℕ)) (text : List ℕ) (done at : ℕ) → Some at ≡ position (λ x. x == space) (take (length text - done) (drop done text))
    → new ≡ old ++ kept (take (done + at - done) (drop done text) ∷ []) → old ++ kept (parts_left text done) ≡ all → new ++ kept (parts_left text (done + (at + 1))) ≡ all
cut_on old new all text done at is grown so_far =
    let rest = drop done text in
    let later = parts_left text (done + (at + 1)) in
    let found : Some at ≡ position (λ x. x == space) rest = subst (λ (l : List ℕ). Some at ≡ position (λ x. x == space) l) (to_end text done) is in
    let number : done + at - done ≡ at = omega arith in
    let parts : parts_left text done ≡ take (done + at - done) rest ∷ later =
    split_found space rest at found
    ∙ ap (λ (l : List ℕ). take at rest ∷ slice_split (λ x. x == space) l) (drop-drop (at + 1) done text)
    ∙ ap (λ (n : ℕ). take n rest ∷ later) (sym number) in
    ap (λ (l : List (List ℕ)). l ++ kept later) grown
    ∙ append_assoc old (kept (take (done + at - done) rest ∷ [])) (kept later)
    ∙ ap (λ (l : List (List ℕ)). old ++ l) (sym (filter-append (λ part. not (length part == 0)) (take (done + at - done) rest ∷ []) later) ∙ ap kept (sym parts))
    ∙ so_far

-- what is left is one part
pub cut_last : (old new all : List (List ℕ)) (text : List ℕ) (done : ℕ) → None ≡ position (λ x. x == space) (take (length text - done) (drop done text))
    → new ≡ old ++ kept (take (length text - done) (drop done text) ∷ []) → old ++ kept (parts_left text done) ≡ all → new ≡ all
cut_last old new all text done is grown so_far =
    let none : None ≡ position (λ x. x == space) (drop done text) = subst (λ (l : List ℕ). None ≡ position (λ x. x == space) l) (to_end text done) is in
    grown
    ∙ ap (λ (l : List ℕ). old ++ kept (l ∷ [])) (to_end text done)
    ∙ ap (λ (parts : List (List ℕ)). old ++ kept parts) (sym (split_none space (drop done text) none))
    ∙ so_far
