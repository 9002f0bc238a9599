-- Lists of lists of one length.
use Rattle.std.specs.Prelude.{ℕ, zero, suc, List, [], ◌∷◌, ◌++◌, take, drop}

-- `count` runs of `size` items
abbrev pub runs : {X : Type 0} → ℕ → ℕ → List X → List (List X)
runs size zero items = []
runs size (suc count) items = take size items ∷ runs size count (drop size items)

-- the runs, one after another
abbrev pub joined : {X : Type 0} → List (List X) → List X
joined [] = []
joined (run ∷ rest) = run ++ joined rest
