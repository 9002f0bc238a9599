-- A core and the bytes that a buffer holds for it.
use mathlib.Core.Path.{subst, sym}
use Rattle.std.specs.Prelude.{◌≡◌, refl, ℕ, ◌+◌, ◌%◌, ◌<◌, ◌≤◌, List, [], ◌++◌, length}

-- what contracts see of a wrapped core
pub record Wrapped (C : Type 0) : Type 0 where
  pub core : C
  pub held : List ℕ

-- A core has absorbed `count` bytes, in whole blocks, and so many after them fill no block:
-- together no more than the core may absorb.
pub record IsWrapped (limit size count held : ℕ) : Type 0 where
  pub within : count + held ≤ limit
  pub whole : count % size ≡ 0
  pub short : held < size

-- the core stands for the list m but for its last bytes, which are held
pub record StandsFor (stands : List ℕ → Type 0) (held m : List ℕ) : Type 0 where
  pub absorbed : List ℕ
  pub stood : stands absorbed
  pub joined : m ≡ absorbed ++ held

-- a core that stands for the empty list does so with no byte held
pub nothing_StandsFor : {stands : List ℕ → Type 0} → stands [] → StandsFor stands [] []
nothing_StandsFor stood = record { absorbed = []; stood = stood; joined = refl }

-- no byte absorbed and none held are none
pub nothing_counts : {n : ℕ} → n ≡ 0 → n + length {A = ℕ} [] ≡ 0
nothing_counts none = subst (λ (k : ℕ). k + length {A = ℕ} [] ≡ 0) (sym none) refl
