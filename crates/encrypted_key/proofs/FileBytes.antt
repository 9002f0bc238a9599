-- A file that was written is bytes.
use Rattle.std.proofs.Common.{◌≡◌, ℕ, ◌+◌, ◌*◌, ◌/◌, ◌%◌, ◌<◌, ◌≤◌, true, nat_lt, List, [], ◌∷◌, ◌++◌, length, length-append, refl, sym, arith, inl, inr, subst}
use Rattle.std.specs.List.{list_all}
use Rattle.std.proofs.lemmas.Bool.{and_parts, cases_lt, ltb-true}
use Rattle.aes.specs.Bytes.{AreBytes}
use Rattle.aes.specs.Cbc.{padded}
use Rattle.aes.proofs.Blocks.{byte_at, joined_bytes}
use Rattle.aes.proofs.Bytes.{AllBytes, all_bytes}
use Rattle.aes.proofs.Messages.{blocks_bytes}
use Rattle.pbkdf2.specs.Pbkdf2.{pbkdf2}
use Rattle.encrypted_key.specs.Der.{element, length_bytes}
use Rattle.encrypted_key.specs.Form.{aes256_cbc, hmac_with_sha256, identifier, integer, octets, pbes2, pbkdf2_identifier, sequence}
use Rattle.encrypted_key.specs.Reading.{max_iterations}
use Rattle.encrypted_key.specs.Writing.{derivation_of, encrypted, encryption_of, file_of, number_bytes, parameters, scheme_of, text_of}
use Rattle.encrypted_key.proofs.Elements.{four_bytes_of, long_bytes, middle_bytes, one_byte, short_bytes, three_bytes, two_bytes}
use Rattle.encrypted_key.proofs.Written.{given_of, length-text}

-- up to so many bytes
record Few (most : ℕ) (bytes : List ℕ) : Type 0 where
  size : length bytes ≤ most
  are : AllBytes bytes

few_as : (most : ℕ) (a b : List ℕ) → a ≡ b → Few most b → Few most a
few_as most a b same few = let P : List ℕ → Type 0 = λ m. Few most m in subst P (sym same) few

checked : (bytes : List ℕ) → list_all (λ b. nat_lt b 256) bytes ≡ true → AllBytes bytes
checked [] all = tt
checked (x ∷ bytes) all = let both = and_parts _ _ all in (ltb-true x 256 both.0, checked bytes both.1)

few_joined : (m n : ℕ) (a b : List ℕ) → Few m a → Few n b → Few (m + n) (a ++ b)
few_joined m n a b f g = record {
  size = omega (arith, length-append a b, f.size, g.size);
  are = joined_bytes a b f.are g.are;
}

few_length : (n : ℕ) → n < 65536 → Few 3 (length_bytes n)
few_length n short =
    elim (cases_lt n 128) [
      | inl low ↦ few_as 3 (length_bytes n) (n ∷ []) (short_bytes n low) (record { size = omega arith; are = (omega arith, tt) })
      | inr high ↦
          elim (cases_lt n 256) [
            | inl less ↦
                few_as 3 (length_bytes n) (0x81 ∷ n ∷ []) (middle_bytes n high less)
                (record { size = omega arith; are = (omega arith, (less, tt)) })
            | inr more ↦
                few_as 3 (length_bytes n) (0x82 ∷ n / 256 ∷ n % 256 ∷ []) (long_bytes n more)
                (record { size = omega arith; are = (omega arith, (omega arith, (omega arith, tt))) })
          ]
    ]

few_element : (most tag : ℕ) (content : List ℕ) → tag < 256 → most < 65536 → Few most content → Few (most + 4) (element tag content)
unfolding element
few_element most tag content low short few =
    let size = few_length (length content) (omega (arith, few.size)) in
    record {
      size = omega (arith, length-append (length_bytes (length content)) content, size.size, few.size);
      are = (low, joined_bytes (length_bytes (length content)) content size.are few.are);
    }

few_number : (n : ℕ) → n ≤ 10000000 → Few 4 (number_bytes n)
few_number n most =
    elim (cases_lt n 0x80) [
      | inl low ↦ few_as 4 (number_bytes n) _ (one_byte n low) (record { size = omega arith; are = (omega arith, tt) })
      | inr high ↦
          elim (cases_lt n 0x8000) [
            | inl low ↦
                few_as 4 (number_bytes n) _ (two_bytes n high low) (record { size = omega arith; are = (omega arith, (omega arith, tt)) })
            | inr higher ↦
                elim (cases_lt n 0x800000) [
                  | inl low ↦
                      few_as 4 (number_bytes n) _ (three_bytes n higher low)
                      (record { size = omega arith; are = (omega arith, (omega arith, (omega arith, tt))) })
                  | inr highest ↦
                      few_as 4 (number_bytes n) _ (four_bytes_of n highest)
                      (record { size = omega arith; are = (omega arith, (omega arith, (omega arith, (omega arith, tt)))) })
                ]
          ]
    ]

few_block : (bytes : List ℕ) → length bytes ≡ 16 → AreBytes bytes → Few 16 bytes
few_block bytes size are = record { size = omega (arith, size); are = all_bytes bytes are }

few_parameters : (salt : List ℕ) (count : ℕ) → Few 16 salt → count ≤ 10000000 → Few 46 (parameters salt count)
few_parameters salt count few most =
    let function : Few 14 hmac_with_sha256 = record { size = omega arith; are = checked hmac_with_sha256 refl } in
    let salted = few_element 16 octets salt (omega arith) (omega arith) few in
    let counted = few_element 4 integer (number_bytes count) (omega arith) (omega arith) (few_number count most) in
    few_element 42 sequence ((element octets salt ++ element integer (number_bytes count)) ++ hmac_with_sha256) (omega arith) (omega arith)
    (few_joined 28 14 (element octets salt ++ element integer (number_bytes count)) hmac_with_sha256
    (few_joined 20 8 (element octets salt) (element integer (number_bytes count)) salted counted) function)

few_derivation : (salt : List ℕ) (count : ℕ) → Few 16 salt → count ≤ 10000000 → Few 63 (derivation_of salt count)
unfolding derivation_of
few_derivation salt count few most =
    let name : Few 9 pbkdf2_identifier = record { size = omega arith; are = checked pbkdf2_identifier refl } in
    few_element 59 sequence (element identifier pbkdf2_identifier ++ parameters salt count) (omega arith) (omega arith)
    (few_joined 13 46 (element identifier pbkdf2_identifier) (parameters salt count)
    (few_element 9 identifier pbkdf2_identifier (omega arith) (omega arith) name) (few_parameters salt count few most))

few_encryption : (iv : List ℕ) → Few 16 iv → Few 37 (encryption_of iv)
unfolding encryption_of
few_encryption iv few =
    let name : Few 9 aes256_cbc = record { size = omega arith; are = checked aes256_cbc refl } in
    few_element 33 sequence (element identifier aes256_cbc ++ element octets iv) (omega arith) (omega arith)
    (few_joined 13 20 (element identifier aes256_cbc) (element octets iv)
    (few_element 9 identifier aes256_cbc (omega arith) (omega arith) name) (few_element 16 octets iv (omega arith) (omega arith) few))

few_scheme : (salt iv : List ℕ) (count : ℕ) → Few 16 salt → Few 16 iv → count ≤ 10000000 → Few 121 (scheme_of salt count iv)
unfolding scheme_of
few_scheme salt iv count few_salt few_iv most =
    let name : Few 9 pbes2 = record { size = omega arith; are = checked pbes2 refl } in
    let both = few_element 100 sequence (derivation_of salt count ++ encryption_of iv) (omega arith) (omega arith)
    (few_joined 63 37 (derivation_of salt count) (encryption_of iv) (few_derivation salt count few_salt most) (few_encryption iv few_iv)) in
    few_element 117 sequence (element identifier pbes2 ++ element sequence (derivation_of salt count ++ encryption_of iv)) (omega arith) (omega arith)
    (few_joined 13 104 (element identifier pbes2) (element sequence (derivation_of salt count ++ encryption_of iv))
    (few_element 9 identifier pbes2 (omega arith) (omega arith) name) both)

pub file_bytes : (passphrase salt iv m : List ℕ) (count : ℕ) → length salt ≡ 16 → AreBytes salt → length iv ≡ 16 → AreBytes iv
    → count ≤ max_iterations → AreBytes m → length m ≤ 32768 → AreBytes (encrypted passphrase salt count iv m)
unfolding file_of
file_bytes passphrase salt iv m count hs salt_bytes hv iv_bytes most bytes short =
    let key = pbkdf2 passphrase salt count 32 in
    let text = text_of passphrase salt count iv m in
    let n = length (padded m) / 16 in
    let within : 16 * n ≤ length (padded m) = omega arith in
    let few_text : Few 32784 text = record {
      size = omega (arith, length-text passphrase salt iv m count hv iv_bytes bytes);
      are = blocks_bytes key iv (padded m) n (given_of passphrase salt iv m count hv iv_bytes bytes) within;
    } in
    let scheme = few_scheme salt iv count (few_block salt hs salt_bytes) (few_block iv hv iv_bytes) most in
    let whole = few_element 32909 sequence (scheme_of salt count iv ++ element octets text) (omega arith) (omega arith)
    (few_joined 121 32788 (scheme_of salt count iv) (element octets text) scheme (few_element 32784 octets text (omega arith) (omega arith) few_text)) in
    λ i. byte_at (encrypted passphrase salt count iv m) i whole.are
