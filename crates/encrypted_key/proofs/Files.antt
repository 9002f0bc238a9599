-- What a file that was written tells.
use Rattle.std.proofs.Common.{◌≡◌, ℕ, ◌+◌, ◌*◌, ◌%◌, ◌≤◌, List, ◌++◌, append_assoc, length, true, false, nat_lt, Some, Ok, Err, refl, ap, ◌∙◌, arith, if◌then◌else◌}
use Rattle.std.specs.Bool.{◌==◌}
use Rattle.std.specs.Str.{bytes_eq}
use Rattle.std.proofs.lemmas.Bool.{eq-eqb, le-ltb}
use Rattle.std.proofs.lemmas.Slice.Eq.{bytes_eq-Decides}
use Rattle.encrypted_key.specs.Der.{alone, cut, element}
use Rattle.encrypted_key.specs.Form.{aes256_cbc, hmac_with_sha256, identifier, integer, octets, pbes2, pbkdf2_identifier, sequence}
use Rattle.encrypted_key.specs.Reading.{Told, behind, sized_told, cipher_named, counted, derivation, encryption, inside, is_function, iterations, known_cipher, max_iterations, onward, outer, salted, scheme, told, told_in}
use Rattle.encrypted_key.specs.Writing.{derivation_of, encryption_of, file_of, number_bytes, scheme_of}
use Rattle.encrypted_key.specs.declared.error.EncryptedKeyError.TheVariants.{Scheme}
use Rattle.encrypted_key.proofs.Elements.{alone_element, cut_element, differs, number_back}

outer_back : (a t : List ℕ) → outer (element sequence (element sequence a ++ element octets t)) ≡ Ok (a, t)
unfolding outer
outer_back a t =
    ap (λ o. inside o (λ all. behind (cut sequence all) (λ x body. inside (alone octets body) (λ text. Ok (x, text))))) (alone_element sequence (element sequence a ++ element octets t))
    ∙ ap (λ o. behind o (λ x body. inside (alone octets body) (λ text. Ok (x, text)))) (cut_element sequence a (element octets t))
    ∙ ap (λ o. inside o (λ text. Ok (a, text))) (alone_element octets t)

same_name : (name : List ℕ) → bytes_eq name name ≡ true
same_name name = (bytes_eq-Decides name name).1 refl

scheme_back : (d e : List ℕ) → scheme (element identifier pbes2 ++ element sequence (element sequence d ++ element sequence e)) ≡ Ok (d, e)
unfolding scheme
scheme_back d e =
    ap (λ o. behind o (λ name rest. if bytes_eq name pbes2 then inside (alone sequence rest) (λ both. behind (cut sequence both) (λ x more. inside (alone sequence more) (λ y. Ok (x, y)))) else Err Scheme))
    (cut_element identifier pbes2 (element sequence (element sequence d ++ element sequence e)))
    ∙ ap (λ o. inside o (λ both. behind (cut sequence both) (λ x more. inside (alone sequence more) (λ y. Ok (x, y))))) (alone_element sequence (element sequence d ++ element sequence e))
    ∙ ap (λ o. behind o (λ x more. inside (alone sequence more) (λ y. Ok (x, y)))) (cut_element sequence d (element sequence e))
    ∙ ap (λ o. inside o (λ y. Ok (d, y))) (alone_element sequence e)

derivation_back : (p : List ℕ) → derivation (element identifier pbkdf2_identifier ++ element sequence p) ≡ Ok p
unfolding derivation
derivation_back p =
    ap (λ o. behind o (λ name rest. if bytes_eq name pbkdf2_identifier then inside (alone sequence rest) (λ x. Ok x) else Err Scheme))
    (cut_element identifier pbkdf2_identifier (element sequence p))
    ∙ ap (λ o. inside o (λ x. Ok x)) (alone_element sequence p)

encryption_back : (t : Told) → cipher_named aes256_cbc ≡ Some t.cipher
    → encryption (element identifier aes256_cbc ++ element octets t.iv) ≡ Ok (t.cipher, t.iv)
unfolding encryption
encryption_back t e =
    ap (λ o. behind o (λ name rest. known_cipher (cipher_named name) rest)) (cut_element identifier aes256_cbc (element octets t.iv))
    ∙ ap (λ o. known_cipher o (element octets t.iv)) e
    ∙ ap (λ o. inside o (λ x. Ok (t.cipher, x))) (alone_element octets t.iv)

count_back : (n : ℕ) → 1 ≤ n → n ≤ 10000000 → iterations (number_bytes n) ≡ Ok n
unfolding iterations
count_back n some most =
    let nonzero : (n == 0) ≡ false = differs n 0 (λ e. omega (arith, e)) in
    let low : nat_lt max_iterations n ≡ false = le-ltb max_iterations n most in
    ap counted (number_back n some most) ∙ rw (nonzero, low) refl

salted_back : (t : Told) → 1 ≤ t.count → t.count ≤ 10000000
    → salted t.cipher ((element octets t.salt ++ element integer (number_bytes t.count)) ++ hmac_with_sha256) ≡ Ok (t.salt, t.count)
unfolding salted is_function
salted_back t some most =
    let salt = t.salt in
    let n = t.count in
    let last = λ (s : List ℕ) (count rest : List ℕ). if is_function t.cipher rest then onward (iterations count) (λ m. Ok (s, m)) else Err Scheme in
    ap (λ o. behind (cut octets o) (λ s more. behind (cut integer more) (λ count rest. last s count rest))) (append_assoc (element octets salt) (element integer (number_bytes n)) hmac_with_sha256)
    ∙ ap (λ o. behind o (λ s more. behind (cut integer more) (λ count rest. last s count rest))) (cut_element octets salt (element integer (number_bytes n) ++ hmac_with_sha256))
    ∙ ap (λ o. behind o (λ count rest. last salt count rest)) (cut_element integer (number_bytes n) hmac_with_sha256)
    ∙ ap (λ r. onward r (λ m. Ok (salt, m))) (count_back n some most)

pub told_back : (t : Told) (blocks : ℕ) → cipher_named aes256_cbc ≡ Some t.cipher
    → length t.salt ≡ 16 → length t.iv ≡ 16 → 1 ≤ t.count → t.count ≤ max_iterations
    → length t.text ≡ 16 * blocks + 16
    → told_in (file_of t.salt t.count t.iv t.text) ≡ Ok t
unfolding told_in file_of scheme_of derivation_of encryption_of
told_back t blocks named hs hv some most ht =
    let iv = t.iv in
    let text = t.text in
    let p2 = (element octets t.salt ++ element integer (number_bytes t.count)) ++ hmac_with_sha256 in
    let p1 = element identifier pbkdf2_identifier ++ element sequence p2 in
    let e1 = element identifier aes256_cbc ++ element octets iv in
    let x = element identifier pbes2 ++ element sequence (element sequence p1 ++ element sequence e1) in
    let short : nat_lt 255 (length t.salt) ≡ false = le-ltb 255 (length t.salt) (omega arith) in
    let size : (length iv == 16) ≡ true = eq-eqb (length iv) 16 hv in
    let some_text : (length text == 0) ≡ false = differs (length text) 0 (λ e. omega (arith, e)) in
    let whole : (length text % 16 == 0) ≡ true = eq-eqb (length text % 16) 0 (omega arith) in
    ap (λ r. onward r (λ parts. onward (scheme parts.0) (λ schemes. onward (derivation schemes.0) (λ ps. onward (encryption schemes.1) (λ ciphered. onward (salted ciphered.0 ps) (λ salting. sized_told (told ciphered.0 salting.0 salting.1 ciphered.1 parts.1)))))))
    (outer_back x text)
    ∙ ap (λ r. onward r (λ schemes. onward (derivation schemes.0) (λ ps. onward (encryption schemes.1) (λ ciphered. onward (salted ciphered.0 ps) (λ salting. sized_told (told ciphered.0 salting.0 salting.1 ciphered.1 text))))))
    (scheme_back p1 e1)
    ∙ ap (λ r. onward r (λ ps. onward (encryption e1) (λ ciphered. onward (salted ciphered.0 ps) (λ salting. sized_told (told ciphered.0 salting.0 salting.1 ciphered.1 text)))))
    (derivation_back p2)
    ∙ ap (λ r. onward r (λ ciphered. onward (salted ciphered.0 p2) (λ salting. sized_told (told ciphered.0 salting.0 salting.1 ciphered.1 text))))
    (encryption_back t named)
    ∙ ap (λ r. onward r (λ salting. sized_told (told t.cipher salting.0 salting.1 iv text))) (salted_back t some most)
    ∙ rw (short, size, some_text, whole) refl
