-- What a file of an encrypted key tells, or why it is refused. Form and scheme are refused as they
-- are met on the way: the file, the scheme, the derivation, the cipher and its initial vector, the
-- salt and the count, the function. Then come the count, the lengths, and the passphrase.
use Rattle.std.specs.Prelude.{ℕ, nat_lt, ◌==◌, ◌||◌, ◌%◌, not, nat_eq, List, [], ◌∷◌}
use Rattle.std.specs.Prelude.{length, take}
use Rattle.std.specs.Prelude.{Option, None, Some, Result, Ok, Err, Bool, false, if◌then◌else◌}
use Rattle.std.specs.Str.{bytes_eq}
use Rattle.std.specs.List.{starts_with}
use Rattle.aes.specs.Cbc.{inverse_cbc, unpadded_len}
use Rattle.pbkdf2.specs.Pbkdf2.{pbkdf2}
use Rattle.encrypted_key.specs.Der.{alone, cut, number_of}
use Rattle.encrypted_key.specs.Form.{aes128_cbc, aes256_cbc, hmac_with_sha256, pbes2}
use Rattle.encrypted_key.specs.Form.{pbkdf2_identifier, identifier, integer, octets, sequence}
use Rattle.encrypted_key.specs.declared.error.EncryptedKeyError.{EncryptedKeyError}
use Rattle.encrypted_key.specs.declared.error.EncryptedKeyError.TheVariants.{Form, Iterations}
use Rattle.encrypted_key.specs.declared.error.EncryptedKeyError.TheVariants.{Length, Passphrase}
use Rattle.encrypted_key.specs.declared.error.EncryptedKeyError.TheVariants.{Scheme}
use Rattle.encrypted_key.specs.declared.cipher.Cipher.{Cipher}
use Rattle.encrypted_key.specs.declared.cipher.Cipher.TheVariants.{Aes128, Aes256}

-- what is read on behind an element, where it is there
abbrev pub behind : {A : Type 0} → Option (List ℕ × List ℕ)
    → (List ℕ → List ℕ → Result A EncryptedKeyError) → Result A EncryptedKeyError
behind None next = Err Form
behind (Some parts) next = next parts.0 parts.1

-- what is read on in an element, where it is there and nothing behind it
abbrev pub inside : {A : Type 0} → Option (List ℕ)
    → (List ℕ → Result A EncryptedKeyError) → Result A EncryptedKeyError
inside None next = Err Form
inside (Some content) next = next content

-- the algorithm, and what is encrypted (RFC 5958, 3: EncryptedPrivateKeyInfo)
unfoldable pub outer : List ℕ → Result (List ℕ × List ℕ) EncryptedKeyError
outer file =
    inside (alone sequence file) (λ all.
    behind (cut sequence all) (λ algorithm body.
    inside (alone octets body) (λ text. Ok (algorithm, text))))

-- the key derivation and the cipher of PBES2 (RFC 8018, A.4)
unfoldable pub scheme : List ℕ → Result (List ℕ × List ℕ) EncryptedKeyError
scheme algorithm =
    behind (cut identifier algorithm) (λ name rest.
    if bytes_eq name pbes2 then
    inside (alone sequence rest) (λ both.
    behind (cut sequence both) (λ derivation more.
    inside (alone sequence more) (λ encryption. Ok (derivation, encryption))))
    else Err Scheme)

-- the parameters of PBKDF2 (RFC 8018, A.2)
unfoldable pub derivation : List ℕ → Result (List ℕ) EncryptedKeyError
derivation content =
    behind (cut identifier content) (λ name rest.
    if bytes_eq name pbkdf2_identifier then
    inside (alone sequence rest) (λ parameters. Ok parameters)
    else Err Scheme)

-- the cipher of an identifier
unfoldable pub cipher_named : List ℕ → Option Cipher
cipher_named name =
    if bytes_eq name aes256_cbc then Some Aes256
    else if bytes_eq name aes128_cbc then Some Aes128
    else None

abbrev pub known_cipher : Option Cipher → List ℕ → Result (Cipher × List ℕ) EncryptedKeyError
known_cipher None rest = Err Scheme
known_cipher (Some cipher) rest = inside (alone octets rest) (λ iv. Ok (cipher, iv))

-- the cipher, and its initial vector (RFC 8018, B.2.5)
unfoldable pub encryption : List ℕ → Result (Cipher × List ℕ) EncryptedKeyError
encryption content =
    behind (cut identifier content) (λ name rest. known_cipher (cipher_named name) rest)

-- the most iterations that are taken
abbrev pub max_iterations : ℕ
max_iterations = 10000000

abbrev pub counted : Option ℕ → Result ℕ EncryptedKeyError
counted None = Err Iterations
counted (Some n) = if n == 0 || nat_lt max_iterations n then Err Iterations else Ok n

-- a count of iterations
unfoldable pub iterations : List ℕ → Result ℕ EncryptedKeyError
iterations content = counted (number_of content)

abbrev pub key_len : Cipher → ℕ
key_len Aes128 = 16
key_len Aes256 = 32

-- what stands behind the count: HMAC-SHA-256, before which the cipher's length of a key may stand
unfoldable pub is_function : Cipher → List ℕ → Bool
is_function cipher rest =
    bytes_eq rest hmac_with_sha256
    || bytes_eq rest (0x02 ∷ 0x01 ∷ key_len cipher ∷ hmac_with_sha256)

-- what comes after a step that wasn't refused
abbrev pub onward : {A B : Type 0} → Result A EncryptedKeyError
    → (A → Result B EncryptedKeyError) → Result B EncryptedKeyError
onward (Err e) next = Err e
onward (Ok a) next = next a

-- the salt and the count of iterations
unfoldable pub salted : Cipher → List ℕ → Result (List ℕ × ℕ) EncryptedKeyError
salted cipher parameters =
    behind (cut octets parameters) (λ salt more.
    behind (cut integer more) (λ count rest.
    if is_function cipher rest then onward (iterations count) (λ n. Ok (salt, n))
    else Err Scheme))

-- what is told of a file
pub record Told : Type 0 where
  pub cipher : Cipher
  pub salt : List ℕ
  pub count : ℕ
  pub iv : List ℕ
  pub text : List ℕ

abbrev pub told : Cipher → List ℕ → ℕ → List ℕ → List ℕ → Told
told cipher salt count iv text =
    record { cipher = cipher; salt = salt; count = count; iv = iv; text = text }

-- the salt has at most 255 bytes, the initial vector is a block, and the text blocks, at least one
abbrev pub sized_told : Told → Result Told EncryptedKeyError
sized_told told =
    if nat_lt 255 (length told.salt) || (not (length told.iv == 16)
    || (length told.text == 0 || not (length told.text % 16 == 0)))
    then Err Length else Ok told

-- what a file tells, or the first cause of its refusal
unfoldable pub told_in : List ℕ → Result Told EncryptedKeyError
told_in file =
    onward (outer file) (λ parts.
    onward (scheme parts.0) (λ schemes.
    onward (derivation schemes.0) (λ parameters.
    onward (encryption schemes.1) (λ ciphered.
    onward (salted ciphered.0 parameters) (λ salting.
    sized_told (told ciphered.0 salting.0 salting.1 ciphered.1 parts.1))))))

-- how a private key begins (RFC 5958, 2): version 0 or 1, and an algorithm
abbrev pub begins_key : List ℕ → Bool
begins_key content =
    starts_with nat_eq content (0x02 ∷ 0x01 ∷ 0x00 ∷ 0x30 ∷ [])
    || starts_with nat_eq content (0x02 ∷ 0x01 ∷ 0x01 ∷ 0x30 ∷ [])

abbrev pub if_begins : Option (List ℕ) → Bool
if_begins None = false
if_begins (Some content) = begins_key content

-- the bytes are one sequence that begins as a private key does
unfoldable pub is_private_key : List ℕ → Bool
is_private_key bytes = if_begins (alone sequence bytes)

-- a private key, of what was decrypted
abbrev pub key_before : List ℕ → Option ℕ → Result (List ℕ) EncryptedKeyError
key_before plain None = Err Passphrase
key_before plain (Some n) =
    if is_private_key (take n plain) then Ok (take n plain) else Err Passphrase

-- the private key of what is told, under a passphrase
unfoldable pub opened : List ℕ → Told → Result (List ℕ) EncryptedKeyError
opened passphrase told =
    let key = pbkdf2 passphrase told.salt told.count (key_len told.cipher) in
    let plain = inverse_cbc key told.iv told.text in
    key_before plain (unpadded_len plain)

-- the private key of a file under a passphrase, want of memory aside
abbrev pub decrypted : List ℕ → List ℕ → Result (List ℕ) EncryptedKeyError
decrypted passphrase file = onward (told_in file) (opened passphrase)
