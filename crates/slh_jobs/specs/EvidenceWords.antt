-- How evidence stands in words, as on a line behind the signature (docs/LINES.md).
use Rattle.std.specs.Prelude.{◌==◌, ℕ, List, ◌++◌, length, Option, None, Some}
use Rattle.std.specs.Prelude.{codes, decimal, if◌then◌else◌}
use Rattle.std.specs.Str.{bytes_eq}
use Rattle.line_serve.specs.Decimals.{number_value}
use Rattle.line_serve.specs.Fields.{field_at, for_some}
use Rattle.slh_audit.specs.declared.evidence.Evidence.{Evidence}
use Rattle.slh_audit.specs.declared.evidence.Evidence.TheVariants.{ForsNode, ForsRoots}
use Rattle.slh_audit.specs.declared.evidence.Evidence.TheVariants.{ChainStep, Leaf, TreeNode, Early}

-- the numbers stand behind the kind, as many as it has
abbrev pub one_number : List (List ℕ) → (ℕ → Evidence) → Option Evidence
one_number words make =
    if length words == 2 then
    for_some (number_value (field_at words 1)) (λ x. Some (make x))
    else None

abbrev pub two_numbers : List (List ℕ) → (ℕ → ℕ → Evidence) → Option Evidence
two_numbers words make =
    if length words == 3 then
    for_some (number_value (field_at words 1)) (λ x.
    for_some (number_value (field_at words 2)) (λ y. Some (make x y)))
    else None

abbrev pub three_numbers : List (List ℕ) → (ℕ → ℕ → ℕ → Evidence) → Option Evidence
three_numbers words make =
    if length words == 4 then
    for_some (number_value (field_at words 1)) (λ x.
    for_some (number_value (field_at words 2)) (λ y.
    for_some (number_value (field_at words 3)) (λ z. Some (make x y z))))
    else None

-- the evidence of some words
--   fors-node TREE HEIGHT
--   fors-roots
--   chain-step LAYER CHAIN STEP
--   leaf LAYER
--   tree-node LAYER HEIGHT
--   early LAYER CHAIN
abbrev pub evidence_in : List (List ℕ) → Option Evidence
evidence_in words =
    let kind = field_at words 0 in
    if bytes_eq kind (codes "fors-node") then two_numbers words (λ i z. ForsNode i z)
    else if bytes_eq kind (codes "fors-roots") then
    if length words == 1 then Some ForsRoots else None
    else if bytes_eq kind (codes "chain-step") then three_numbers words (λ j c q. ChainStep j c q)
    else if bytes_eq kind (codes "leaf") then one_number words (λ j. Leaf j)
    else if bytes_eq kind (codes "tree-node") then two_numbers words (λ j z. TreeNode j z)
    else if bytes_eq kind (codes "early") then two_numbers words (λ j c. Early j c)
    else None

-- how it is printed: numbers without leading zeros
abbrev pub spaced : ℕ → List ℕ
spaced number = codes " " ++ decimal number

abbrev pub evidence_text : Evidence → List ℕ
evidence_text (ForsNode i z) = codes "fors-node" ++ spaced i ++ spaced z
evidence_text ForsRoots = codes "fors-roots"
evidence_text (ChainStep j c q) = codes "chain-step" ++ spaced j ++ spaced c ++ spaced q
evidence_text (Leaf j) = codes "leaf" ++ spaced j
evidence_text (TreeNode j z) = codes "tree-node" ++ spaced j ++ spaced z
evidence_text (Early j c) = codes "early" ++ spaced j ++ spaced c
