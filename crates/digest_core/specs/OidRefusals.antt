-- Which arcs are no object identifier.
use Rattle.std.specs.Prelude.{ℕ, List, [], ◌∷◌, Bool, ◌&&◌, ◌||◌, length, nat_lt}
use Rattle.std.specs.Prelude.{Option, None, Some, if◌then◌else◌}
use Rattle.digest_core.specs.Oid.{encoding}
use Rattle.digest_core.specs.declared.oid.OidError.{OidError}
use Rattle.digest_core.specs.declared.oid.OidError.TheVariants.{TooFew, Range, TooLong}

-- the first arc is over 2, or the second over 39 under a first of 0 or 1
abbrev pub is_out_of_range : ℕ → ℕ → Bool
is_out_of_range first second = nat_lt 2 first || (nat_lt first 2 && nat_lt 39 second)

-- the first reason that stands, if any
abbrev pub refusal : List ℕ → Option OidError
refusal [] = Some TooFew
refusal (first ∷ []) = Some TooFew
refusal (first ∷ second ∷ rest) =
    if is_out_of_range first second then Some Range
    else if nat_lt 39 (length (encoding (first ∷ second ∷ rest))) then Some TooLong
    else None
