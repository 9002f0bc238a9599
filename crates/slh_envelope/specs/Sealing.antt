-- Envelopes that are made. Z is the scheme, of values of n bytes.
use Rattle.std.specs.Prelude.{ℕ, ◌*◌, List, [], ◌∷◌, Option, None, Some, drop}
use Rattle.hex.specs.Hex.{encode_lower}
use Rattle.sha256_lanes.specs.Sha256.{sha256}
use Rattle.slh_core.specs.Parameters.{Scheme}
use Rattle.slh_core.specs.Refusals.{first_refusal, message_refusal, randomizer_refusal}
use Rattle.slh_frames.specs.Frames.{frame}
use Rattle.slh_trees.specs.Signing.{signature_of}
use Rattle.dsse.specs.Encoding.{pae}
use Rattle.dsse.specs.Said.{Said}
use Rattle.dsse.specs.Writing.{envelope_text}
use Rattle.slh_envelope.specs.declared.error.SealError.{SealError}
use Rattle.slh_envelope.specs.declared.error.SealError.TheVariants.{Randomizer, TooLong}

-- the id of a verifying key: the SHA-256 of its bytes, in hexadecimal
abbrev pub key_id : List ℕ → List ℕ
key_id key = encode_lower (sha256 key)

-- an envelope with one signature and the id of a verifying key
abbrev pub with_one : List ℕ → List ℕ → List ℕ → List ℕ → Said
with_one public payload_type payload signature = record {
  payload_type = payload_type;
  payload = payload;
  signatures = record { key_id = Some (key_id public); bytes = signature } ∷ [];
}

abbrev pub text_with_one : List ℕ → List ℕ → List ℕ → List ℕ → List ℕ
text_with_one public payload_type payload signature =
    envelope_text (with_one public payload_type payload signature)

-- an envelope that is signed by a signing key in mode `Pure` under the empty context
abbrev pub sealed : Scheme → List ℕ → Option (List ℕ) → List ℕ → List ℕ → Said
sealed Z key opt_rand payload_type payload =
    with_one (drop (2 * Z.n) key) payload_type payload
    (signature_of Z key opt_rand (frame [] (pae payload_type payload)))

-- why no envelope is made in which this text is signed
abbrev pub seal_refusal : Scheme → Option (List ℕ) → List ℕ → Option SealError
seal_refusal Z opt_rand text =
    first_refusal (randomizer_refusal Randomizer Z.n opt_rand ∷ message_refusal TooLong text ∷ [])
