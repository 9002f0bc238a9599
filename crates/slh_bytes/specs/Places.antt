-- Where a mark stands in a text.
use Rattle.std.specs.Prelude.{ℕ, ◌+◌, List, [], ◌∷◌, length, take, drop, nat_eq}
use Rattle.std.specs.Prelude.{Option, None, Some, option_map, if◌then◌else◌}
use Rattle.std.specs.List.{starts_with}

-- the first place of a mark
abbrev pub first_place : List ℕ → List ℕ → Option ℕ
first_place mark [] = None
first_place mark (x ∷ xs) =
    if starts_with nat_eq (x ∷ xs) mark then Some 0
    else option_map (λ k. k + 1) (first_place mark xs)

-- what stands before it, and what stands behind it
abbrev pub cut_at : List ℕ → List ℕ → Option (List ℕ × List ℕ)
cut_at mark text =
    option_map (λ at. (take at text, drop (at + length mark) text)) (first_place mark text)
