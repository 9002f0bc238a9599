-- Counts of hash calls.
use Rattle.std.specs.Prelude.{◌≡◌, ℕ, ◌<◌}
use Rattle.std.specs.declared.sync.ledger.Blank.{Blank}

-- a blank, on which nothing was counted, for the ledger with name l and p parts
pub record IsFresh (blank : Blank) (l p : ℕ) : Type 0 where
  pub name : blank.name ≡ l
  pub parts : blank.parts ≡ p
  pub some : 0 < blank.parts
