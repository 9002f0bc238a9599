-- The name and the number of a set are its own.
use Rattle.std.proofs.Common.{◌≡◌, Some, refl}
use Rattle.slh_sets.specs.Sets.{name_of, number_of, set_named, set_numbered}
use Rattle.slh_sets.specs.declared.set.Set.{Set}
use Rattle.slh_sets.specs.declared.set.Set.TheVariants.{Sha2_128s, Sha2_128f}
use Rattle.slh_sets.specs.declared.set.Set.TheVariants.{Sha2_192s, Sha2_192f}
use Rattle.slh_sets.specs.declared.set.Set.TheVariants.{Sha2_256s, Sha2_256f}

pub own_name : (set : Set) → set_named (name_of set) ≡ Some set
own_name Sha2_128s = refl
own_name Sha2_128f = refl
own_name Sha2_192s = refl
own_name Sha2_192f = refl
own_name Sha2_256s = refl
own_name Sha2_256f = refl

pub own_number : (set : Set) → set_numbered (number_of set) ≡ Some set
own_number Sha2_128s = refl
own_number Sha2_128f = refl
own_number Sha2_192s = refl
own_number Sha2_192f = refl
own_number Sha2_256s = refl
own_number Sha2_256f = refl
