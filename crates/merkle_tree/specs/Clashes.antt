-- Different inputs that are hashed to one digest.
use Rattle.std.specs.Prelude.{ℕ, ◌+◌, List, [], ◌∷◌, Bool, not, ◌&&◌}
use Rattle.std.specs.Prelude.{Option, None, Some, if◌then◌else◌}
use Rattle.std.specs.Str.{bytes_eq}
use Rattle.merkle_tree.specs.Hashes.{HashFunction}

-- two inputs differ, and their digests don't
abbrev pub clashes : HashFunction → List ℕ → List ℕ → Bool
clashes H a b = not (bytes_eq a b) && bytes_eq (H a) (H b)

-- two inputs that are compared
pub record Inputs : Type 0 where
  pub first : List ℕ
  pub second : List ℕ

abbrev pub is_clash : HashFunction → Inputs → Bool
is_clash H p = clashes H p.first p.second

-- the first of some pairs of inputs that clashes
unfoldable pub first_clash : HashFunction → List Inputs → Option Inputs
first_clash H [] = None
first_clash H (p ∷ ps) = if is_clash H p then Some p else first_clash H ps

-- the next number
abbrev pub raised : Option ℕ → Option ℕ
raised None = None
raised (Some h) = Some (h + 1)

-- the least place at which two lists of inputs clash
unfoldable pub clash_place : HashFunction → List (List ℕ) → List (List ℕ) → Option ℕ
clash_place H [] ys = None
clash_place H (x ∷ xs) [] = None
clash_place H (x ∷ xs) (y ∷ ys) = if clashes H x y then Some 0 else raised (clash_place H xs ys)
