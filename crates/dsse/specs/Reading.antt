-- What a text says, read as an envelope.
use Rattle.std.specs.Prelude.{◌≡◌, ℕ, List, [], ◌∷◌, Option, None, Some, codes, option_and_then, option_map}
use Rattle.std.specs.Option.{option_or}
use Rattle.std.specs.Str.{IsUtf8}
use Rattle.base64.specs.Engines.{standard, standard_no_pad, url_safe, url_safe_no_pad}
use Rattle.base64.specs.GeneralPurpose.{decoded_of}
use Rattle.json.specs.Find.{as_array, as_str, get}
use Rattle.json.specs.Json.{Json, Items, no_items, item, document}
use Rattle.json.specs.Strict.{HasUniqueKeys}
use Rattle.dsse.specs.Said.{Said, Signed}

-- the bytes of a text, by the first of these forms of base64 that it has
unfoldable pub decoded : List ℕ → Option (List ℕ)
decoded text = option_or (decoded_of standard text)
    (option_or (decoded_of standard_no_pad text)
    (option_or (decoded_of url_safe text) (decoded_of url_safe_no_pad text)))

-- the text under a name
abbrev pub text_in : List ℕ → Json → Option (List ℕ)
text_in name j = option_and_then as_str (get name j)

-- the bytes whose base64 stands under a name
abbrev pub bytes_in : List ℕ → Json → Option (List ℕ)
bytes_in name j = option_and_then decoded (text_in name j)

-- a key's id is a text, where there is one
abbrev pub as_key_id : Option Json → Option (Option (List ℕ))
as_key_id None = Some None
as_key_id (Some j) = option_map Some (as_str j)

abbrev pub key_id_in : Json → Option (Option (List ℕ))
key_id_in j = as_key_id (get (codes "keyid") j)

abbrev pub signature_in : Json → Option Signed
signature_in j = option_and_then (λ id.
    option_map (λ bytes. record { key_id = id; bytes = bytes }) (bytes_in (codes "sig") j))
    (key_id_in j)

-- each of them, or none at all
abbrev pub signatures_of : Items → Option (List Signed)
signatures_of no_items = Some []
signatures_of (item j rest) = option_and_then (λ s. option_map (λ ss. s ∷ ss) (signatures_of rest))
    (signature_in j)

abbrev pub signatures_in : Json → Option (List Signed)
signatures_in j = option_and_then signatures_of
    (option_and_then as_array (get (codes "signatures") j))

abbrev pub envelope_in : Json → Option Said
envelope_in j = option_and_then (λ payload_type.
    option_and_then (λ payload.
    option_map (λ signatures.
    record { payload_type = payload_type; payload = payload; signatures = signatures })
    (signatures_in j))
    (bytes_in (codes "payload") j))
    (text_in (codes "payloadType") j)

-- the text is JSON in UTF-8 in which no object has two members of one name, and says so
pub record IsEnvelope (text : List ℕ) (e : Said) : Type 0 where
  pub utf8 : IsUtf8 text
  pub json : Json
  pub is : document text ≡ Some json
  pub unique : HasUniqueKeys json
  pub says : envelope_in json ≡ Some e
