-- What an iterator gives.
use Rattle.std.specs.Prelude.{◌≡◌, ℕ, ◌<◌, List, length, Option, Some, None}
use Rattle.std.specs.Iterator.{Yields}

-- the iterator gives these items and then none, which leaves it as end
pub record GivesAll {S X : Type 0} (steps : S → Option X → S → Type 0) (s : S) (items : List X)
    (end : S) : Type 0 where
  pub rest : S
  pub given : Yields steps s items rest
  pub none : steps rest None end

-- the iterator ends before n items, or gives one more, and is then asked no more
pub data GivesOther {S X : Type 0} (steps : S → Option X → S → Type 0) (s : S) (n : ℕ) (end : S)
    : Type 0 where
  fewer : (items : List X) → length items < n → GivesAll steps s items end
      → GivesOther steps s n end
  more : (items : List X) (x : X) (rest : S) → Yields steps s items rest → length items ≡ n
      → steps rest (Some x) end → GivesOther steps s n end
