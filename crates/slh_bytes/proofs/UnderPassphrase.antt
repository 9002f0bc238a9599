-- The file of a signing key under a passphrase is read as its key.
use Rattle.std.proofs.Common.{◌≡◌, ℕ, ◌<◌, ◌≤◌, List, [], ◌∷◌, ◌++◌, length, length-append, true, false, nat_lt, Some, Ok, Err, is_some, codes, refl, sym, ap, ◌∙◌, subst, arith, inl, inr, if◌then◌else◌}
use Rattle.std.specs.Int.{div_ceil}
use Rattle.std.proofs.lemmas.Bool.{cases_lt, le-ltb, lt-ltb}
use Rattle.base64.specs.Engines.{standard}
use Rattle.base64.specs.GeneralPurpose.{IsBytes, decode_of, encode_of}
use Rattle.base64.proofs.EngineFacts.{decode_of-encode_of}
use Rattle.encrypted_key.specs.Der.{alone, element as der_element}
use Rattle.encrypted_key.specs.Form.{sequence}
use Rattle.encrypted_key.specs.Reading.{if_begins, is_private_key, max_iterations}
use Rattle.encrypted_key.specs.Writing.{encrypted}
use Rattle.encrypted_key.proofs.Elements.{alone_element, middle_bytes, short_bytes}
use Rattle.encrypted_key.proofs.FileBytes.{file_bytes}
use Rattle.encrypted_key.proofs.Written.{decrypted_of_encrypted}
use Rattle.slh_sets.specs.declared.set.Set.{Set}
use Rattle.slh_sets.specs.declared.set.Set.TheVariants.{Sha2_128s, Sha2_128f}
use Rattle.slh_sets.specs.declared.set.Set.TheVariants.{Sha2_192s, Sha2_192f}
use Rattle.slh_sets.specs.declared.set.Set.TheVariants.{Sha2_256s, Sha2_256f}
use Rattle.slh_bytes.specs.Blocks.{begin_mark, behind, block_in, checked_block}
use Rattle.slh_bytes.specs.Encrypted.{block_key_under, decoded_key_under, encrypted_begin_line, encrypted_end_line, encrypted_key_file, key_under, key_under_by, opened_key}
use Rattle.slh_bytes.specs.Heads.{algorithm, der_length, der_of, element, key_len}
use Rattle.slh_bytes.specs.Lines.{line_key}
use Rattle.slh_bytes.specs.Places.{cut_at, first_place}
use Rattle.slh_bytes.specs.Reading.{block_key, key_in, key_with, pem_key}
use Rattle.slh_bytes.specs.Writing.{lines_of_64}
use Rattle.slh_bytes.specs.declared.error.KeyFileError.TheVariants.{Encrypted, NoEnd}
use Rattle.slh_bytes.specs.declared.key.Kind.TheVariants.{Signing}
use Rattle.slh_bytes.proofs.HeadTable.{der_bytes, head_at_is}
use Rattle.slh_bytes.proofs.RoundTrip.{cut_behind, lines_squeezed, read_der, undashed_lines}
use Rattle.slh_bytes.proofs.Symbols.{base64_symbols, no_dash}

-- a block under a passphrase is no key in the open

abbrev label : List ℕ
label = codes "ENCRYPTED PRIVATE KEY"

abbrev framed : List ℕ → List ℕ
framed lines = encrypted_begin_line ++ lines ++ encrypted_end_line

begins : (lines : List ℕ) → first_place begin_mark (framed lines) ≡ Some 0
begins lines = refl

read_block : (lines : List ℕ) → no_dash lines ≡ true → block_in (framed lines) ≡ Ok (label, 10 ∷ lines)
read_block lines plain =
    ap (λ found. behind NoEnd found (λ body rest. behind NoEnd (cut_at (codes "-----") rest) (λ last rest. checked_block label body last rest)))
    (cut_behind (codes "----END ") (10 ∷ lines) encrypted_end_line plain refl)

unread : (lines : List ℕ) → no_dash lines ≡ true → key_in Signing (framed lines) ≡ Err Encrypted
unread lines plain =
    ap (λ found. if is_some found then pem_key Signing (framed lines) else line_key Signing (framed lines)) (begins lines)
    ∙ ap (block_key Signing) (read_block lines plain)

-- the DER of a signing key is a private key, for the reader of encrypted keys

same_element : (tag : ℕ) (content : List ℕ) → length content < 256 → element tag content ≡ der_element tag content
unfolding der_element
same_element tag content small =
    let n = length content in
    elim (cases_lt n 128) [
      | inl low ↦
          let short : nat_lt n 128 ≡ true = lt-ltb n 128 low in
          let own : der_length n ≡ n ∷ [] = rw short refl in
          ap (λ (l : List ℕ). tag ∷ l ++ content) (own ∙ sym (short_bytes n low))
      | inr high ↦
          let long : nat_lt n 128 ≡ false = le-ltb n 128 high in
          let own : der_length n ≡ 0x81 ∷ n ∷ [] = rw long refl in
          ap (λ (l : List ℕ). tag ∷ l ++ content) (own ∙ sym (middle_bytes n high small))
    ]

key_len_most : (set : Set) → key_len Signing set ≤ 128
key_len_most Sha2_128s = omega arith
key_len_most Sha2_128f = omega arith
key_len_most Sha2_192s = omega arith
key_len_most Sha2_192f = omega arith
key_len_most Sha2_256s = omega arith
key_len_most Sha2_256f = omega arith

-- what stands in the DER of a signing key
abbrev content : Set → List ℕ → List ℕ
content set key = element 0x02 (0 ∷ []) ++ algorithm set ++ element 0x04 key

length-der_length : (n : ℕ) → length (der_length n) ≤ 2
length-der_length n =
    elim (cases_lt n 128) [
      | inl low ↦ let short : nat_lt n 128 ≡ true = lt-ltb n 128 low in rw short (omega arith)
      | inr high ↦ let long : nat_lt n 128 ≡ false = le-ltb n 128 high in rw long (omega arith)
    ]

length-content : (set : Set) (key : List ℕ) → length key ≡ key_len Signing set → length (content set key) ≤ 147
length-content set key sized =
    let version : length (element 0x02 (0 ∷ [])) ≡ 3 = refl in
    let name : length (algorithm set) ≡ 13 = refl in
    omega (arith, version, name, sized, key_len_most set, length-der_length (length key), length-append (der_length (length key)) key, length-append (algorithm set) (element 0x04 key), length-append (element 0x02 (0 ∷ [])) (algorithm set ++ element 0x04 key))

private_key : (set : Set) (key : List ℕ) → length key ≡ key_len Signing set → is_private_key (der_of Signing set key) ≡ true
unfolding is_private_key
private_key set key sized =
    let small : length (content set key) < 256 = omega (arith, length-content set key sized) in
    ap (λ (d : List ℕ). if_begins (alone sequence d)) (same_element 0x30 (content set key) small)
    ∙ ap if_begins (alone_element sequence (content set key))

length-der : (set : Set) (key : List ℕ) → length key ≡ key_len Signing set → length (der_of Signing set key) ≤ 32768
length-der set key sized =
    omega (arith, length-content set key sized, length-der_length (length (content set key)), length-append (der_length (length (content set key))) (content set key))

pub encrypted_is_read : (passphrase salt iv key : List ℕ) (count : ℕ) (set : Set)
    → length salt ≡ 16 → IsBytes salt → length iv ≡ 16 → IsBytes iv → 1 ≤ count → count ≤ max_iterations
    → IsBytes key → length key ≡ key_len Signing set
    → key_under passphrase (encrypted_key_file passphrase salt count iv set key) ≡ Ok (key_with set key)
encrypted_is_read passphrase salt iv key count set hs salt_bytes hv iv_bytes some most bytes sized =
    let m = der_of Signing set key in
    let P : List ℕ → Type 0 = λ d. IsBytes d in
    let m_bytes : IsBytes m = subst P (head_at_is Signing set key sized) (der_bytes Signing set key bytes) in
    let file = encrypted passphrase salt count iv m in
    let are : IsBytes file = file_bytes passphrase salt iv m count hs salt_bytes hv iv_bytes most m_bytes (length-der set key sized) in
    let symbols = encode_of standard file in
    let lines = lines_of_64 symbols in
    let plain : no_dash lines ≡ true = undashed_lines (div_ceil (length symbols) 64) symbols (base64_symbols file) in
    ap (key_under_by passphrase (framed lines)) (unread lines plain)
    ∙ ap (block_key_under passphrase) (read_block lines plain)
    ∙ ap (λ (b : List ℕ). decoded_key_under passphrase (decode_of standard b)) (lines_squeezed symbols (base64_symbols file))
    ∙ ap (decoded_key_under passphrase) (decode_of-encode_of standard file refl are)
    ∙ ap opened_key (decrypted_of_encrypted passphrase salt iv m count hs hv iv_bytes some most m_bytes (private_key set key sized))
    ∙ read_der Signing set key sized
