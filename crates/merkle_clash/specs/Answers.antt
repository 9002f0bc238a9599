-- What the calls answer: no clash where the lengths aren't those that a tree, a path or a proof asks.
use Rattle.std.specs.Prelude.{ℕ, ◌==◌, ◌&&◌, List, ◌∷◌, length, map, nat_lt, not, if◌then◌else◌}
use Rattle.std.specs.Prelude.{Option, None, Some}
use Rattle.std.specs.Option.{option_or}
use Rattle.merkle_tree.specs.Binding.{entry_pairs, growth_clash, inclusion_clash, roots_clash}
use Rattle.merkle_tree.specs.Clashes.{Inputs, first_clash, is_clash}
use Rattle.merkle_tree.specs.Climb.{path_sides}
use Rattle.merkle_tree.specs.Consistency.{proof_len}
use Rattle.merkle_tree.specs.Hashes.{HashFunction}
use Rattle.merkle_tree.specs.Tree.{leaf_hash}

-- for two lists of equally many digests
abbrev pub roots_answer : HashFunction → List (List ℕ) → List (List ℕ) → Option Inputs
roots_answer H p q = if length p == length q then roots_clash H p q else None

-- for a proof that is as long as one from p to q
abbrev pub growth_answer : HashFunction → List (List ℕ) → List (List ℕ) → List (List ℕ) → Option Inputs
growth_answer H p q proof =
    if nat_lt 0 (length p) && not (nat_lt (length q) (length p))
    && length proof == proof_len (length p) (length q)
    then growth_clash H p q proof
    else None

-- for a path that is as long as that of digest i of q
abbrev pub inclusion_answer : HashFunction → List (List ℕ) → ℕ → List ℕ → List (List ℕ) → Option Inputs
inclusion_answer H q i x path =
    if nat_lt i (length q) && length path == length (path_sides i (length q))
    then inclusion_clash H q i x path
    else None

-- what is hashed for two entries
abbrev pub entry_inputs : List ℕ → List ℕ → Inputs
entry_inputs m o = record { first = 0 ∷ m; second = 0 ∷ o }

-- for an entry m in the place of entry i, which is o, of a list with the digests q
abbrev pub entry_answer : HashFunction → List (List ℕ) → ℕ → List ℕ → List ℕ → List (List ℕ)
    → Option Inputs
entry_answer H q i o m path =
    if is_clash H (entry_inputs m o)
    then Some (entry_inputs m o)
    else inclusion_answer H q i (leaf_hash H m) path

-- for a proof that is as long as one from the entries a to b
abbrev pub entries_answer : HashFunction → List (List ℕ) → List (List ℕ) → List (List ℕ)
    → Option Inputs
entries_answer H a b proof = option_or (first_clash H (entry_pairs a b))
    (growth_answer H (map (leaf_hash H) a) (map (leaf_hash H) b) proof)
