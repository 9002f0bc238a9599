-- The form of an encrypted key (RFC 5958, 3; RFC 8018, A): tags and object identifiers.
use Rattle.std.specs.Prelude.{ℕ, List, [], ◌∷◌}

-- tags
abbrev pub integer : ℕ
integer = 0x02

abbrev pub octets : ℕ
octets = 0x04

abbrev pub identifier : ℕ
identifier = 0x06

abbrev pub sequence : ℕ
sequence = 0x30

-- id-PBES2: 1.2.840.113549.1.5.13
abbrev pub pbes2 : List ℕ
pbes2 = 0x2a ∷ 0x86 ∷ 0x48 ∷ 0x86 ∷ 0xf7 ∷ 0x0d ∷ 0x01 ∷ 0x05 ∷ 0x0d ∷ []

-- id-PBKDF2: 1.2.840.113549.1.5.12
abbrev pub pbkdf2_identifier : List ℕ
pbkdf2_identifier = 0x2a ∷ 0x86 ∷ 0x48 ∷ 0x86 ∷ 0xf7 ∷ 0x0d ∷ 0x01 ∷ 0x05 ∷ 0x0c ∷ []

-- id-hmacWithSHA256, 1.2.840.113549.2.9, and NULL
abbrev pub hmac_with_sha256 : List ℕ
hmac_with_sha256 =
    0x30 ∷ 0x0c ∷ 0x06 ∷ 0x08 ∷ 0x2a ∷ 0x86 ∷ 0x48 ∷ 0x86 ∷ 0xf7 ∷ 0x0d ∷ 0x02 ∷ 0x09
    ∷ 0x05 ∷ 0x00 ∷ []

-- aes128-CBC-PAD: 2.16.840.1.101.3.4.1.2
abbrev pub aes128_cbc : List ℕ
aes128_cbc = 0x60 ∷ 0x86 ∷ 0x48 ∷ 0x01 ∷ 0x65 ∷ 0x03 ∷ 0x04 ∷ 0x01 ∷ 0x02 ∷ []

-- aes256-CBC-PAD: 2.16.840.1.101.3.4.1.42
abbrev pub aes256_cbc : List ℕ
aes256_cbc = 0x60 ∷ 0x86 ∷ 0x48 ∷ 0x01 ∷ 0x65 ∷ 0x03 ∷ 0x04 ∷ 0x01 ∷ 0x2a ∷ []
