-- What a checkpoint that opens was signed for.
use Rattle.std.proofs.Common.{◌≡◌, ℕ, ◌++◌, ◌∷◌, List, length, drop, true, false, Option, Some, None, refl, sym, ◌∙◌, ap, arith}
use Rattle.std.specs.Bool.{◌==◌}
use Rattle.std.proofs.lemmas.Bool.{ne_eqb}
use Rattle.base64.specs.GeneralPurpose.{IsBytes}
use Rattle.slh_core.specs.Parameters.{Scheme}
use Rattle.slh_frames.specs.declared.frame.Mode.TheVariants.{Pure}
use Rattle.slh_core.proofs.Refusals.{passed}
use Rattle.slh_dsa.specs.Calls.{is_valid}
use Rattle.slh_log.proofs.Made.{opened_parts}
use Rattle.slh_log.proofs.Opened.{Extends, text_extends}
use Rattle.slh_log.specs.Calls.{read_signature, signature_refusal}
use Rattle.slh_log.specs.Heads.{IsOpened, IsSigned}
use Rattle.slh_log.specs.Reading.{line_at, read_text}
use Rattle.slh_log.specs.Texts.{checkpoint_text, log_context}

-- a signature that isn't refused
record Taken (Z : Scheme) (key text : List ℕ) (read : Option (List ℕ)) : Type 0 where
  signed : List ℕ
  found : read ≡ Some signed
  valid : is_valid Z Pure key log_context text (drop 4 signed) ≡ true

taken : (Z : Scheme) (key text : List ℕ) (read : Option (List ℕ)) → signature_refusal Z key text read ≡ None → Taken Z key text read
taken Z key text None is = cc is
taken Z key text (Some signed) is = record { signed = signed; found = refl; valid = passed _ _ is }

pub opened_signed : (Z : Scheme) (set key origin bytes root : List ℕ) (size : ℕ) → IsBytes bytes → IsOpened Z set key origin bytes size root → IsSigned Z set key origin bytes size root
opened_signed Z set key origin bytes root size are is =
    let read = opened_parts Z set key origin bytes is.opens in
    let one = taken Z key (read_text bytes) (read_signature Z set key origin bytes) read.signed in
    let some : (length (line_at bytes 0) == 0) ≡ false = ne_eqb (length (line_at bytes 0)) 0 (omega (arith, read.some)) in
    let text = text_extends bytes size root some is.is_size is.is_root read.signatures are in
    record {
      signed = one.signed;
      extension = text.extension;
      found = one.found;
      valid = one.valid;
      text = text.is ∙ ap (λ o. checkpoint_text o size root ++ text.extension) read.origin_is;
    }
