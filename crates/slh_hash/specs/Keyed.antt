-- What the kept states stand for.
use Rattle.std.specs.Prelude.{◌≡◌, ℕ, List, []}
use Rattle.std.specs.Coded.{Coded-set, coded_list, coded_ℕ, ×_prop}
use Rattle.sha2.specs.Hashers.{Holds512}
use Rattle.sha2.specs.Sha512.{Holds}
use Rattle.sha2.specs.declared.Sha512.{Sha512}

-- for one hasher and one message, that it holds the message is one fact
pub Holds512-prop : (hasher : Sha512) (m : List ℕ) → IsProp (Holds512 hasher m)
unfolding Holds
Holds512-prop hasher m =
    ×_prop (Coded-set coded_ℕ _ _)
    (×_prop (Coded-set (coded_list coded_ℕ) _ _) (Coded-set (coded_list coded_ℕ) _ _))

-- for one list, that it is empty is one fact
pub nothing-prop : (held : List ℕ) → IsProp (held ≡ [])
nothing-prop held = Coded-set (coded_list coded_ℕ) held []
