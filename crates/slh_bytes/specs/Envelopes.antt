-- What is answered of envelopes under the bytes of keys. Z is the scheme.
use Rattle.std.specs.Prelude.{◌≡◌, ℕ, ◌*◌, ◌==◌, Bool, true, false, List, length}
use Rattle.slh_core.specs.Parameters.{Scheme}
use Rattle.slh_envelope.specs.Opening.{IsRefused}
use Rattle.slh_envelope.specs.declared.error.OpenError.{OpenError}
use Rattle.slh_envelope.specs.declared.error.OpenError.TheVariants.{Unsigned}

-- why an envelope isn't opened, by bytes that are a key of the set or aren't
abbrev pub IsUnopenedBy : Bool → Scheme → List ℕ → List ℕ → List ℕ → OpenError → Type 0
IsUnopenedBy true Z key payload_type text error = IsRefused Z key payload_type text error
IsUnopenedBy false Z key payload_type text error = error ≡ Unsigned

abbrev pub IsUnopened : Scheme → List ℕ → List ℕ → List ℕ → OpenError → Type 0
IsUnopened Z key = IsUnopenedBy (length key == 2 * Z.n) Z key
