-- What was encrypted is decrypted.
use Rattle.std.proofs.Common.{◌≡◌, ℕ, zero, suc, ◌+◌, ◌*◌, ◌/◌, ◌%◌, ◌<◌, ◌≤◌, List, length, length-append, take, replicate, true, Some, Ok, refl, sym, ap, ◌∙◌, arith, inr}
use Rattle.std.proofs.lemmas.List.{length-replicate}
use Rattle.std.proofs.Math.Seq.{take-append_seam}
use Rattle.aes.specs.Bytes.{AreBytes}
use Rattle.aes.specs.Cbc.{padded, padding_count}
use Rattle.aes.proofs.Blocks.{joined_bytes}
use Rattle.aes.proofs.Bytes.{AllBytes, a_block, all_bytes}
use Rattle.aes.proofs.Messages.{Given, cbc_back, length-blocks, unpadded}
use Rattle.pbkdf2.specs.Pbkdf2.{pbkdf2}
use Rattle.pbkdf2.proofs.Sizes.{key_bytes, length-key}
use Rattle.encrypted_key.specs.Form.{aes256_cbc}
use Rattle.encrypted_key.specs.Reading.{cipher_named, decrypted, is_private_key, max_iterations, onward, opened, told, told_in}
use Rattle.encrypted_key.specs.Writing.{encrypted, file_of, text_of}
use Rattle.encrypted_key.specs.declared.cipher.Cipher.TheVariants.{Aes256}
use Rattle.encrypted_key.proofs.Files.{told_back}
use Rattle.encrypted_key.proofs.Opening.{Gives, opened_some}

aes_256_named : cipher_named aes256_cbc ≡ Some Aes256
unfolding cipher_named
aes_256_named = refl

pub told_of_file : (salt iv text : List ℕ) (count more : ℕ) → length salt ≡ 16 → length iv ≡ 16
    → 1 ≤ count → count ≤ max_iterations → length text ≡ 16 * more + 16
    → told_in (file_of salt count iv text) ≡ Ok (told Aes256 salt count iv text)
told_of_file salt iv text count more hs hv some most ht =
    told_back (told Aes256 salt count iv text) more aes_256_named hs hv some most ht

replicated_bytes : (n x : ℕ) → x < 256 → AllBytes (replicate n x)
replicated_bytes zero x h = tt
replicated_bytes (suc n) x h = (h, replicated_bytes n x h)

padded_bytes : (m : List ℕ) → AllBytes m → AllBytes (padded m)
unfolding padded
padded_bytes m h =
    let c = padding_count (length m) in
    let small : c < 256 = omega arith in
    joined_bytes m (replicate c c) h (replicated_bytes c c small)

length-padded : (m : List ℕ) → length (padded m) ≡ 16 * (length m / 16) + 16
unfolding padded
length-padded m =
    let c = padding_count (length m) in
    omega (arith, length-append m (replicate c c), length-replicate c c)

front_of_padded : (m : List ℕ) → take (length m) (padded m) ≡ m
unfolding padded
front_of_padded m = take-append_seam m (replicate (padding_count (length m)) (padding_count (length m)))

-- what is encrypted of a private key
pub given_of : (passphrase salt iv m : List ℕ) (count : ℕ) → length iv ≡ 16 → AreBytes iv → AreBytes m
    → Given (pbkdf2 passphrase salt count 32) iv (padded m)
given_of passphrase salt iv m count hv iv_bytes bytes =
    let key = pbkdf2 passphrase salt count 32 in
    let long : length key ≡ 32 = length-key passphrase salt count 32 (omega arith) in
    record {
      size = inr (inr long);
      key_bytes = all_bytes key (key_bytes passphrase salt count 32 (omega arith));
      iv_block = a_block iv hv iv_bytes;
      bytes = padded_bytes m (all_bytes m bytes);
    }

pub length-text : (passphrase salt iv m : List ℕ) (count : ℕ) → length iv ≡ 16 → AreBytes iv → AreBytes m
    → length (text_of passphrase salt count iv m) ≡ 16 * (length m / 16) + 16
length-text passphrase salt iv m count hv iv_bytes bytes =
    let key = pbkdf2 passphrase salt count 32 in
    let n = length (padded m) / 16 in
    let blocks : length (padded m) ≡ 16 * (length m / 16) + 16 = length-padded m in
    let within : 16 * n ≤ length (padded m) = omega arith in
    length-blocks key iv (padded m) n (given_of passphrase salt iv m count hv iv_bytes bytes) within ∙ omega (arith, blocks)

pub decrypted_of_encrypted : (passphrase salt iv m : List ℕ) (count : ℕ) → length salt ≡ 16 → length iv ≡ 16
    → AreBytes iv → 1 ≤ count → count ≤ max_iterations → AreBytes m → is_private_key m ≡ true
    → decrypted passphrase (encrypted passphrase salt count iv m) ≡ Ok m
decrypted_of_encrypted passphrase salt iv m count hs hv iv_bytes some most bytes is =
    let key = pbkdf2 passphrase salt count 32 in
    let text = text_of passphrase salt count iv m in
    let t = told Aes256 salt count iv text in
    let g = given_of passphrase salt iv m count hv iv_bytes bytes in
    let text_len = length-text passphrase salt iv m count hv iv_bytes bytes in
    let even : length (padded m) % 16 ≡ 0 = omega (arith, length-padded m) in
    let given : Gives passphrase (padded m) t = record {
      is = sym (cbc_back key iv (padded m) g.size g.key_bytes g.iv_block g.bytes even);
    } in
    let rest : is_private_key (take (length m) (padded m)) ≡ true = ap is_private_key (front_of_padded m) ∙ is in
    ap (λ r. onward r (opened passphrase)) (told_of_file salt iv text count (length m / 16) hs hv some most text_len)
    ∙ opened_some passphrase (padded m) t (length m) true given (unpadded m) rest
    ∙ ap Ok (front_of_padded m)
