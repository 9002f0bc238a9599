-- What is answered by the bytes of a key, where they are one of the set.
use Rattle.std.proofs.Common.{◌≡◌, Bool, true, false, ◌&&◌, Option, None, Some, if◌then◌else◌, refl}
use Rattle.slh_dsa.specs.declared.error.Error.TheVariants.{Length}

pub one_key : {E : Type 0} (fits : Bool) (refusal other : Option E)
    → (if fits then None else Some Length) ≡ None → (if fits then refusal else other) ≡ refusal
one_key true refusal other is = refl
one_key false refusal other is = cc is

-- the same of two keys
pub both_keys : {E : Type 0} (first second : Bool) (refusal other : Option E)
    → (if first then None else Some Length) ≡ None → (if second then None else Some Length) ≡ None
    → (if first && second then refusal else other) ≡ refusal
both_keys true true refusal other is is' = refl
both_keys true false refusal other is is' = cc is'
both_keys false second refusal other is is' = cc is
