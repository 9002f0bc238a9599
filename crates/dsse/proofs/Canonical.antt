-- A text that is decoded is an encoding of its bytes, in one of the four forms.
use Rattle.std.proofs.Common.{◌≡◌, ℕ, List, Option, Some, None, Result, Ok, Err, inl, inr, refl}
use Rattle.std.specs.Prelude.{◌⊎◌}
use Rattle.std.specs.Option.{option_or}
use Rattle.std.specs.Result.{result_ok}
use Rattle.base64.specs.Engines.{standard, standard_no_pad, url_safe, url_safe_no_pad}
use Rattle.base64.specs.GeneralPurpose.{IsBytes, IsStrict, decode_of, decoded_of, encode_of}
use Rattle.base64.specs.declared.engine.general_purpose.GeneralPurpose.{GeneralPurpose}
use Rattle.base64.proofs.EngineFacts.{decode_of_strict}
use Rattle.dsse.specs.Forms.{IsBase64}
use Rattle.dsse.specs.Reading.{decoded}

one_of : (a b : Option (List ℕ)) (x : List ℕ) → option_or a b ≡ Some x → (a ≡ Some x) ⊎ (b ≡ Some x)
one_of None b x is = inr is
one_of (Some y) b x is = inl is

was_ok : {E : Type 0} (r : Result (List ℕ) E) (x : List ℕ) → result_ok r ≡ Some x → r ≡ Ok x
was_ok (Ok y) x is = cc is
was_ok (Err e) x is = cc is

encoded : (e : GeneralPurpose) (text bytes : List ℕ) → IsStrict e → IsBytes text → decoded_of e text ≡ Some bytes → text ≡ encode_of e bytes
unfolding decoded_of
encoded e text bytes strict are is = decode_of_strict e text bytes strict are (was_ok (decode_of e text) bytes is)

pub four_forms : (text bytes : List ℕ) → IsBytes text → decoded text ≡ Some bytes → IsBase64 text bytes
unfolding decoded
four_forms text bytes are is = elim (one_of (decoded_of standard text) _ bytes is) [
  | inl a ↦ inl (encoded standard text bytes (refl, refl) are a)
  | inr r ↦
      elim (one_of (decoded_of standard_no_pad text) _ bytes r) [
        | inl b ↦ inr (inl (encoded standard_no_pad text bytes (refl, refl) are b))
        | inr q ↦
            elim (one_of (decoded_of url_safe text) _ bytes q) [
              | inl c ↦ inr (inr (inl (encoded url_safe text bytes (refl, refl) are c)))
              | inr d ↦ inr (inr (inr (encoded url_safe_no_pad text bytes (refl, refl) are d)))
            ]
      ]
]
