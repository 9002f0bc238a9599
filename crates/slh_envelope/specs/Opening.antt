-- Envelopes that are verified. Z is the scheme, key a verifying key.
use Rattle.std.specs.Prelude.{◌≡◌, ◌||◌, ◌&&◌, ◌==◌, ℕ, List, [], ◌∷◌, length, Bool, true, ⊤}
use Rattle.std.specs.Prelude.{Option, None, Some, if◌then◌else◌, is_none}
use Rattle.std.specs.List.{list_any, Any}
use Rattle.std.specs.Str.{bytes_eq}
use Rattle.slh_core.specs.Parameters.{Scheme}
use Rattle.slh_core.specs.Refusals.{first_refusal}
use Rattle.slh_dsa.specs.Calls.{verify_error}
use Rattle.dsse.specs.Encoding.{pae}
use Rattle.dsse.specs.Reading.{IsEnvelope}
use Rattle.dsse.specs.Said.{Said, Signed}
use Rattle.slh_envelope.specs.Sealing.{key_id}
use Rattle.slh_envelope.specs.declared.error.OpenError.{OpenError}
use Rattle.slh_envelope.specs.declared.error.OpenError.TheVariants.{Form, PayloadType, Unsigned, Invalid, Memory}

-- what is signed of an envelope
abbrev pub signed_text : Said → List ℕ
signed_text e = pae e.payload_type e.payload

-- whether a signature has this id, or none
abbrev pub may_have_id : List ℕ → Option (List ℕ) → Bool
may_have_id id None = true
may_have_id id (Some given) = length given == 0 || bytes_eq given id

abbrev pub may_be_of : List ℕ → Signed → Bool
may_be_of id s = may_have_id id s.key_id

-- whether such a signature is one of a text under the key, in mode `Pure` with the empty context
abbrev pub is_accepted : Scheme → List ℕ → List ℕ → List ℕ → Signed → Bool
is_accepted Z key id text s = may_be_of id s && is_none (verify_error Z key [] text s.bytes)

-- why an envelope isn't accepted
abbrev pub type_refusal : List ℕ → Said → Option OpenError
type_refusal payload_type e =
    if bytes_eq e.payload_type payload_type then None else Some PayloadType

abbrev pub unaccepted : List ℕ → Said → OpenError
unaccepted key e = if list_any (may_be_of (key_id key)) e.signatures then Invalid else Unsigned

abbrev pub signature_refusal : Scheme → List ℕ → Said → Option OpenError
signature_refusal Z key e =
    if list_any (is_accepted Z key (key_id key) (signed_text e)) e.signatures
    then None else Some (unaccepted key e)

abbrev pub open_refusal : Scheme → List ℕ → List ℕ → Said → Option OpenError
open_refusal Z key payload_type e =
    first_refusal (type_refusal payload_type e ∷ signature_refusal Z key e ∷ [])

-- the text is an envelope that is accepted, and has this payload
pub record IsOpened (Z : Scheme) (key payload_type text payload : List ℕ) : Type 0 where
  pub envelope : Said
  pub is : IsEnvelope text envelope
  pub accepted : open_refusal Z key payload_type envelope ≡ None
  pub says : envelope.payload ≡ payload

-- the text is an envelope that is refused for this cause
pub record IsUnaccepted (Z : Scheme) (key payload_type text : List ℕ) (error : OpenError)
    : Type 0 where
  pub envelope : Said
  pub is : IsEnvelope text envelope
  pub refused : open_refusal Z key payload_type envelope ≡ Some error

-- what is refused is no envelope, or one that is refused for this cause; of want of memory nothing
-- is said
abbrev pub IsRefused : Scheme → List ℕ → List ℕ → List ℕ → OpenError → Type 0
IsRefused Z key payload_type text Memory = ⊤
IsRefused Z key payload_type text Form = (e : Said) → IsEnvelope text e → ⊥
IsRefused Z key payload_type text error = IsUnaccepted Z key payload_type text error

-- the key accepts one of an envelope's signatures, of its payload and this type
pub record IsAccepted (Z : Scheme) (key payload_type : List ℕ) (e : Said) : Type 0 where
  pub of_type : e.payload_type ≡ payload_type
  pub signed
      : Any (λ s. verify_error Z key [] (pae payload_type e.payload) s.bytes ≡ None) e.signatures
