-- The parameter sets over SHA-2 by name and by number (FIPS 205, section 11, table 2).
use Rattle.std.specs.Prelude.{ℕ, ◌==◌, List, [], ◌∷◌, Option}
use Rattle.std.specs.List.{find}
use Rattle.std.specs.Option.{option_map}
use Rattle.std.specs.Str.{bytes_eq}
use Rattle.slh_core.specs.Parameters.{Scheme}
use Rattle.slh_hash.specs.Sets.{SetSizes, sha2_128s, sha2_128f, sha2_192s, sha2_192f}
use Rattle.slh_hash.specs.Sets.{sha2_256s, sha2_256f}
use Rattle.slh_sets.specs.declared.set.Set.{Set}
use Rattle.slh_sets.specs.declared.set.Set.TheVariants.{Sha2_128s, Sha2_128f}
use Rattle.slh_sets.specs.declared.set.Set.TheVariants.{Sha2_192s, Sha2_192f}
use Rattle.slh_sets.specs.declared.set.Set.TheVariants.{Sha2_256s, Sha2_256f}

abbrev pub parameters_of : Set → SetSizes
parameters_of Sha2_128s = sha2_128s
parameters_of Sha2_128f = sha2_128f
parameters_of Sha2_192s = sha2_192s
parameters_of Sha2_192f = sha2_192f
parameters_of Sha2_256s = sha2_256s
parameters_of Sha2_256f = sha2_256f

abbrev pub all_sets : List Set
all_sets =
    Sha2_128s ∷ Sha2_128f ∷ Sha2_192s ∷ Sha2_192f ∷ Sha2_256s ∷ Sha2_256f ∷ []

abbrev pub name_of : Set → List ℕ
name_of set = (parameters_of set).name

-- the set with a name, if there is one
abbrev pub set_named : List ℕ → Option Set
set_named name = find (λ set. bytes_eq name (name_of set)) all_sets

-- the place of a set in the table, from 1 on
abbrev pub number_of : Set → ℕ
number_of Sha2_128s = 1
number_of Sha2_128f = 2
number_of Sha2_192s = 3
number_of Sha2_192f = 4
number_of Sha2_256s = 5
number_of Sha2_256f = 6

-- the set with a number, if there is one
abbrev pub set_numbered : ℕ → Option Set
set_numbered number = find (λ set. number == number_of set) all_sets

-- the suite and the sizes of a set
abbrev pub scheme_for : Set → Scheme
scheme_for set = (parameters_of set).scheme

-- the suite and the sizes of the set with a number
abbrev pub scheme_numbered : ℕ → Option Scheme
scheme_numbered number = option_map scheme_for (set_numbered number)
