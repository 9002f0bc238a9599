-- The text of an envelope, as it is written.
use Rattle.std.specs.Prelude.{ℕ, List, [], ◌∷◌, ◌++◌, Option, None, Some, codes}
use Rattle.base64.specs.Engines.{standard}
use Rattle.base64.specs.GeneralPurpose.{encode_of}
use Rattle.json.specs.Json.{Json, string, array, object, Items, no_items, item}
use Rattle.json.specs.Json.{Members, no_members, member}
use Rattle.json.specs.Print.{print}
use Rattle.json.specs.Tree.{json_tokens}
use Rattle.dsse.specs.Said.{Said, Signed}

-- bytes, in base64 with padding
abbrev pub bytes_json : List ℕ → Json
bytes_json bytes = string (encode_of standard bytes)

-- the member of a key's id, where there is one
abbrev pub with_key_id : Option (List ℕ) → Members → Members
with_key_id None rest = rest
with_key_id (Some id) rest = member (codes "keyid") (string id) rest

abbrev pub signature_json : Signed → Json
signature_json s = object (with_key_id s.key_id (member (codes "sig") (bytes_json s.bytes) no_members))

abbrev pub signatures_json : List Signed → Items
signatures_json [] = no_items
signatures_json (s ∷ rest) = item (signature_json s) (signatures_json rest)

abbrev pub envelope_json : Said → Json
envelope_json e =
    object
    (member (codes "payload") (bytes_json e.payload)
    (member (codes "payloadType") (string e.payload_type)
    (member (codes "signatures") (array (signatures_json e.signatures)) no_members)))

-- with no space in it, and a line feed at its end
abbrev pub envelope_text : Said → List ℕ
envelope_text e = print (json_tokens (envelope_json e)) ++ 10 ∷ []
