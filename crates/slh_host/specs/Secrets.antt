-- What the files begin with that aren't replaced.
use Rattle.std.specs.Prelude.{◌==◌, ◌||◌, ℕ, Bool, false, List, Option, None, Some, codes, length, not}
use Rattle.std.specs.Prelude.{if◌then◌else◌, is_ok, is_some, nat_lt}
use Rattle.slh_bytes.specs.Lines.{has_line, squeezed, words_of}
use Rattle.slh_bytes.specs.Places.{first_place}
use Rattle.slh_bytes.specs.Reading.{key_in}
use Rattle.slh_bytes.specs.Signatures.{digits_value}
use Rattle.slh_bytes.specs.declared.key.Kind.TheVariants.{Signing, Verifying}
use Rattle.slh_host.specs.declared.secrets.Kept.{Kept}
use Rattle.slh_host.specs.declared.secrets.Kept.TheVariants.{Secrets, Keys}

-- what stands in each PEM label of a secret key (RFC 7468), whatever its kind and form
abbrev pub secret_label : List ℕ
secret_label = codes "PRIVATE KEY"

-- a key in PEM, or a line SET KEY, of a signing key
abbrev pub is_key : List ℕ → Bool
is_key bytes = is_ok (key_in Signing bytes)

abbrev pub has_bytes : Option (List ℕ) → Bool
has_bytes None = false
has_bytes (Some bytes) = not (length bytes == 0)

-- up to 4096 bytes of nothing but hexadecimal digits and blanks
abbrev pub is_master : List ℕ → Bool
is_master bytes =
    if nat_lt 4096 (length bytes) then false else has_bytes (digits_value (squeezed bytes))

-- a word and the one behind it are a line SET KEY of a signing key, whatever stands around them
abbrev pub holds_line : List ℕ → Bool
holds_line bytes = has_line Signing (words_of bytes)

-- a secret key in PEM, lines SET KEY of signing keys, or a master
unfoldable pub is_secret : List ℕ → Bool
is_secret bytes =
    is_some (first_place secret_label bytes)
    || (is_key bytes || (holds_line bytes || is_master bytes))

-- what stands in each PEM label of a verifying key (RFC 7468)
abbrev pub public_label : List ℕ
public_label = codes "PUBLIC KEY"

-- a verifying key in PEM, or lines SET KEY of verifying keys
unfoldable pub is_public : List ℕ → Bool
is_public bytes = is_some (first_place public_label bytes) || has_line Verifying (words_of bytes)

-- what is kept besides secrets
abbrev pub is_other : Kept → List ℕ → Bool
is_other Secrets bytes = false
is_other Keys bytes = is_public bytes
