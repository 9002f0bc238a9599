-- What an envelope says, by bytes.
use Rattle.std.specs.Prelude.{ℕ, List, Option, All, IfSome, map, option_map}
use Rattle.std.specs.Str.{IsUtf8}
use Rattle.std.specs.String.{string_bytes}
use Rattle.base64.specs.GeneralPurpose.{IsBytes}
use Rattle.dsse.specs.declared.envelope.Envelope.{Envelope}
use Rattle.dsse.specs.declared.envelope.Signature.{Signature}

-- a signature, and the id of its key
pub record Signed : Type 0 where
  pub key_id : Option (List ℕ)
  pub bytes : List ℕ

pub record Said : Type 0 where
  pub payload_type : List ℕ
  pub payload : List ℕ
  pub signatures : List Signed

abbrev pub said_by : Signature → Signed
said_by s = record { key_id = option_map string_bytes s.key_id; bytes = s.bytes.items }

abbrev pub said : Envelope → Said
said e = record {
  payload_type = string_bytes e.payload_type;
  payload = e.payload.items;
  signatures = map said_by e.signatures.items;
}

-- its texts are UTF-8, and the others are bytes: what a program's envelope is
pub record IsSignature (s : Signed) : Type 0 where
  pub key_id : IfSome s.key_id IsUtf8
  pub bytes : IsBytes s.bytes

pub record IsSaid (e : Said) : Type 0 where
  pub payload_type : IsUtf8 e.payload_type
  pub payload : IsBytes e.payload
  pub signatures : All IsSignature e.signatures
