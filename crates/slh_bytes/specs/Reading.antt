-- The key of a key file.
use Rattle.std.specs.Prelude.{ℕ, List, codes, Option, None, Some, is_some, Result, Ok, Err, Bool}
use Rattle.std.specs.Prelude.{if◌then◌else◌}
use Rattle.std.specs.List.{find}
use Rattle.std.specs.Str.{bytes_eq}
use Rattle.base64.specs.Engines.{standard}
use Rattle.base64.specs.GeneralPurpose.{decode_of}
use Rattle.base64.specs.declared.decode.DecodeError.{DecodeError}
use Rattle.slh_sets.specs.Sets.{all_sets}
use Rattle.slh_sets.specs.declared.set.Set.{Set}
use Rattle.slh_bytes.specs.Blocks.{begin_mark, block_in}
use Rattle.slh_bytes.specs.Heads.{algorithm, is_der, key_behind, label, other_kind}
use Rattle.slh_bytes.specs.Lines.{line_key, squeezed}
use Rattle.slh_bytes.specs.Places.{first_place}
use Rattle.slh_bytes.specs.declared.error.KeyFileError.{KeyFileError}
use Rattle.slh_bytes.specs.declared.error.KeyFileError.TheVariants.{Algorithm, Base64, Encrypted}
use Rattle.slh_bytes.specs.declared.error.KeyFileError.TheVariants.{Length, OtherKind, OtherLabel}
use Rattle.slh_bytes.specs.declared.key.Key.{Key}
use Rattle.slh_bytes.specs.declared.key.Kind.{Kind}

-- a set's identifier stands in the bytes
abbrev pub names_set : List ℕ → Set → Bool
names_set der set = is_some (first_place (algorithm set) der)

-- why bytes are no DER of a key
abbrev pub der_error : List ℕ → KeyFileError
der_error der = if is_some (find (names_set der) all_sets) then Length else Algorithm

abbrev pub key_with : Set → List ℕ → Key
key_with set bytes = record { set = set; bytes = bytes }

abbrev pub key_of_set : Kind → List ℕ → Option Set → Result Key KeyFileError
key_of_set kind der None = Err (der_error der)
key_of_set kind der (Some set) = Ok (key_with set (key_behind kind set der))

-- the key whose DER the bytes are
abbrev pub der_key : Kind → List ℕ → Result Key KeyFileError
der_key kind der = key_of_set kind der (find (λ set. is_der kind set der) all_sets)

abbrev pub decoded_key : Kind → Result (List ℕ) DecodeError → Result Key KeyFileError
decoded_key kind (Err _) = Err Base64
decoded_key kind (Ok der) = der_key kind der

-- the key of what stands between a block's lines
abbrev pub body_key : Kind → List ℕ → Result Key KeyFileError
body_key kind body = decoded_key kind (decode_of standard (squeezed body))

-- why a block with another label isn't read
abbrev pub label_error : Kind → List ℕ → KeyFileError
label_error kind found =
    if bytes_eq found (codes "ENCRYPTED PRIVATE KEY") then Encrypted
    else if bytes_eq found (label (other_kind kind)) then OtherKind
    else OtherLabel

abbrev pub block_key : Kind → Result (List ℕ × List ℕ) KeyFileError → Result Key KeyFileError
block_key kind (Err e) = Err e
block_key kind (Ok block) =
    if bytes_eq block.0 (label kind) then body_key kind block.1 else Err (label_error kind block.0)

-- the key of a text's one block
abbrev pub pem_key : Kind → List ℕ → Result Key KeyFileError
pem_key kind text = block_key kind (block_in text)

-- the key of a kind that a text has, want of memory aside
abbrev pub key_in : Kind → List ℕ → Result Key KeyFileError
key_in kind text =
    if is_some (first_place begin_mark text) then pem_key kind text else line_key kind text
