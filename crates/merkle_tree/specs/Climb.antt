-- The way up from a leaf by the siblings that stand in a path.
use Rattle.std.specs.Prelude.{ℕ, zero, suc, ◌-◌, ◌^◌, ◌==◌, ◌&&◌, List, [], ◌∷◌, ◌++◌, length}
use Rattle.std.specs.Prelude.{take, Bool}
use Rattle.std.specs.Str.{bytes_eq}
use Rattle.std.specs.Prelude.{true, false, nat_lt, slice_index_or, if◌then◌else◌}
use Rattle.merkle_tree.specs.Tree.{node_hash, leaf_hash}
use Rattle.merkle_tree.specs.Hashes.{HashFunction}

-- the root above digest i of n, which is x, for an n of at most 2 ^ z
unfoldable pub climb_within : HashFunction → ℕ → List ℕ → ℕ → ℕ → List (List ℕ) → List ℕ
climb_within H zero x i n path = x
climb_within H (suc z) x i n path =
    let e = slice_index_or path (length path - 1) [] in
    let r = take (length path - 1) path in
    if nat_lt (2 ^ z) n
    then (if nat_lt i (2 ^ z)
    then node_hash H (climb_within H z x i (2 ^ z) r) e
    else node_hash H e (climb_within H z x (i - 2 ^ z) (n - 2 ^ z) r))
    else climb_within H z x i n path

-- the root above digest i of n, which is x. n heights are enough, since n ≤ 2 ^ n.
abbrev pub path_climb : HashFunction → List ℕ → ℕ → ℕ → List (List ℕ) → List ℕ
path_climb H x i n path = climb_within H n x i n path

-- for each sibling on the way up from digest i of n, the leaf's first, whether it is on the left
unfoldable pub sides_within : ℕ → ℕ → ℕ → List Bool
sides_within zero i n = []
sides_within (suc z) i n =
    if nat_lt (2 ^ z) n
    then (if nat_lt i (2 ^ z)
    then sides_within z i (2 ^ z) ++ false ∷ []
    else sides_within z (i - 2 ^ z) (n - 2 ^ z) ++ true ∷ [])
    else sides_within z i n

abbrev pub path_sides : ℕ → ℕ → List Bool
path_sides i n = sides_within n i n

-- what is hashed into the node above x and its sibling e
abbrev pub node_input : Bool → List ℕ → List ℕ → List ℕ
node_input true x e = 1 ∷ e ++ x
node_input false x e = 1 ∷ x ++ e

-- the node at the end of the way up from x
unfoldable pub climb_along : HashFunction → List ℕ → List Bool → List (List ℕ) → List ℕ
climb_along H x [] path = x
climb_along H x (side ∷ sides) [] = x
climb_along H x (side ∷ sides) (e ∷ path) = climb_along H (H (node_input side x e)) sides path

-- what is hashed on the way up from x
unfoldable pub inputs_along : HashFunction → List ℕ → List Bool → List (List ℕ) → List (List ℕ)
inputs_along H x [] path = []
inputs_along H x (side ∷ sides) [] = []
inputs_along H x (side ∷ sides) (e ∷ path) =
    node_input side x e ∷ inputs_along H (H (node_input side x e)) sides path

-- what is hashed on the way up from message i of n, which is m: the leaf's input first
abbrev pub path_inputs : HashFunction → List ℕ → ℕ → ℕ → List (List ℕ) → List (List ℕ)
path_inputs H m i n path = (0 ∷ m) ∷ inputs_along H (leaf_hash H m) (path_sides i n) path

-- a path shows that the digest x is the one at i of n under a root
abbrev pub is_included : HashFunction → ℕ → ℕ → List ℕ → List ℕ → List (List ℕ) → Bool
is_included H i n x root path =
    nat_lt i n && length path == length (path_sides i n)
    && bytes_eq (path_climb H x i n path) root
