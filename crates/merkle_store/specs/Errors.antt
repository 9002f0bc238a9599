-- Which node an error names: one that the store doesn't promise.
use Rattle.std.specs.Prelude.{◌≡◌, ℕ, ◌+◌, ◌*◌, ◌^◌, ◌≤◌, Bool, false}
use Rattle.merkle_store.specs.declared.nodes.StoreError.{StoreError}
use Rattle.merkle_store.specs.declared.nodes.StoreError.TheVariants.{Memory, Node}
use Rattle.merkle_store.specs.declared.proving.ProveError.{ProveError}
use Rattle.merkle_store.specs.declared.proving.ProveError.TheVariants.{Differs, Range, Store}

-- a node that is named is over a whole run of so many digests, and isn't one that is promised
abbrev pub IsUngiven : (ℕ → ℕ → Bool) → ℕ → StoreError → Type 0
IsUngiven gives n (Node level index) =
    ((index + 1) * 2 ^ level ≤ n) × (gives level index ≡ false)
IsUngiven gives n Memory = Unit {0}

abbrev pub IsUngivenOf : (ℕ → ℕ → Bool) → ℕ → ProveError → Type 0
IsUngivenOf gives n Range = Unit {0}
IsUngivenOf gives n (Store error) = IsUngiven gives n error
IsUngivenOf gives n Differs = Unit {0}
