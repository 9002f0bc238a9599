-- What a text gives under a passphrase.
use Rattle.std.proofs.Common.{◌≡◌, ℕ, ◌≤◌, List, take, Bool, None, Some, Ok, Err, sym, ap, ◌∙◌, arith, if◌then◌else◌}
use Rattle.aes.specs.Cbc.{inverse_cbc, unpadded_len}
use Rattle.pbkdf2.specs.Pbkdf2.{pbkdf2}
use Rattle.encrypted_key.specs.Reading.{Told, is_private_key, key_before, key_len, opened}
use Rattle.encrypted_key.specs.declared.error.EncryptedKeyError.TheVariants.{Passphrase}
use Rattle.encrypted_key.specs.declared.cipher.Cipher.{Cipher}
use Rattle.encrypted_key.specs.declared.cipher.Cipher.TheVariants.{Aes128, Aes256}

pub key_len_most : (cipher : Cipher) → key_len cipher ≤ 32
key_len_most Aes128 = omega arith
key_len_most Aes256 = omega arith

-- what the text gives, before its padding is taken off
pub record Gives (passphrase plain : List ℕ) (told : Told) : Type 0 where
  pub is : plain ≡ inverse_cbc (pbkdf2 passphrase told.salt told.count (key_len told.cipher)) told.iv told.text

pub gives : (passphrase plain derived iv : List ℕ) (told : Told) (n : ℕ)
    → plain ≡ inverse_cbc (take n derived) iv told.text → n ≡ key_len told.cipher
    → pbkdf2 passphrase told.salt told.count (key_len told.cipher) ≡ take (key_len told.cipher) derived
    → iv ≡ told.iv → Gives passphrase plain told
gives passphrase plain derived iv told n e len key same = record {
  is = e ∙ ap (λ (k : List ℕ). inverse_cbc k iv told.text) (ap (λ (m : ℕ). take m derived) len ∙ sym key)
      ∙ ap (λ (v : List ℕ). inverse_cbc (pbkdf2 passphrase told.salt told.count (key_len told.cipher)) v told.text) same;
}

pub opened_none : (passphrase plain : List ℕ) (told : Told) → Gives passphrase plain told
    → unpadded_len plain ≡ None → opened passphrase told ≡ Err Passphrase
unfolding opened
opened_none passphrase plain told given none =
    ap (λ (p : List ℕ). key_before p (unpadded_len p)) (sym given.is) ∙ ap (key_before plain) none

pub opened_some : (passphrase plain : List ℕ) (told : Told) (n : ℕ) (is_key : Bool) → Gives passphrase plain told
    → unpadded_len plain ≡ Some n → is_private_key (take n plain) ≡ is_key
    → opened passphrase told ≡ (if is_key then Ok (take n plain) else Err Passphrase)
unfolding opened
opened_some passphrase plain told n is_key given some is =
    ap (λ (p : List ℕ). key_before p (unpadded_len p)) (sym given.is) ∙ ap (key_before plain) some
    ∙ ap (λ (b : Bool). if b then Ok (take n plain) else Err Passphrase) is
