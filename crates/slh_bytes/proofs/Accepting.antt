-- What verifying answers for bytes that were read.
use Rattle.std.proofs.Common.{◌≡◌, ℕ, ◌*◌, List, [], length, Bool, None, Some, Result, Ok, Err, ◌∙◌, ap, sym}
use Rattle.std.specs.Prelude.{is_ok}
use Rattle.slh_core.specs.Parameters.{Scheme}
use Rattle.slh_dsa.specs.Calls.{hash_verify_error, is_valid, signature_refusal, verify_refusal, verifying_key_refusal}
use Rattle.slh_dsa.specs.declared.error.Error.{Error as KeyError}
use Rattle.slh_dsa.specs.declared.error.Error.TheVariants as key
use Rattle.slh_frames.specs.declared.frame.Mode.{Mode}
use Rattle.slh_bytes.specs.Jobs.{accepted_by}
use Rattle.slh_jobs.specs.Errors.{error_of}
use Rattle.slh_jobs.specs.Judgement.{answer_to, judgement}
use Rattle.slh_jobs.specs.declared.job.Error.{Error}
use Rattle.slh_jobs.specs.declared.job.Error.TheVariants as job
use Rattle.slh_jobs.specs.declared.job.Job.TheVariants.{Verify}
use Rattle.slh_bytes.proofs.Causes.{begun, decided, fits, key_cause, key_refused, size_cause, size_refused, too_long, verdict_is}
use Rattle.slh_trees.specs.Checking.{signature_size}
use Rattle.slh_core.specs.Refusals.{RefusedExactly, context_refusal, message_refusal}

module _ (Z : Scheme) (mode : Mode) (public context signature : List ℕ) where
  abbrev verdict : List ℕ → Result Bool Error
  verdict m = accepted_by (judgement Z (Verify mode public context m signature))

  pub no_key : (e : KeyError) → verifying_key_refusal Z public ≡ Some e → (m : List ℕ) → verdict m ≡ Err (error_of e)
  no_key e is m =
      key_refused (verifying_key_refusal Z public) (verify_refusal Z context m signature) (answer_to Z (Verify mode public context m signature)) e is
      (key_cause (2 * Z.n) (length public) e is)

  pub not_begun : (e : KeyError) → verifying_key_refusal Z public ≡ None → verify_refusal Z context [] signature ≡ Some e
      → (m : List ℕ) → verdict m ≡ Err (error_of e)
  not_begun e none is m =
      let size = signature_refusal Z (length signature) in
      let long = context_refusal key.ContextTooLong context in
      size_refused (verifying_key_refusal Z public) (verify_refusal Z context m signature) (answer_to Z (Verify mode public context m signature)) e none
      (begun size long (message_refusal key.MessageTooLong m) e is) (size_cause (signature_size Z) (length signature) context e is)

  pub not_ended : verifying_key_refusal Z public ≡ None → verify_refusal Z context [] signature ≡ None
      → (m : List ℕ) (e : Error) → message_refusal job.MessageTooLong m ≡ Some e → verdict m ≡ Err e
  not_ended none right m e is =
      let size = signature_refusal Z (length signature) in
      let long = context_refusal key.ContextTooLong context in
      let (refused, same) = too_long m e is in
      size_refused (verifying_key_refusal Z public) (verify_refusal Z context m signature) (answer_to Z (Verify mode public context m signature))
      key.MessageTooLong none (decided size long (message_refusal key.MessageTooLong m) (Some key.MessageTooLong) right refused) (λ other. cc)
      ∙ ap (λ (x : Error). Err x) (sym same)

  pub ended : (m : List ℕ) (r : Result (Unit {0}) KeyError) (accepted : Bool) → verifying_key_refusal Z public ≡ None
      → verify_refusal Z context [] signature ≡ None → message_refusal job.MessageTooLong m ≡ None
      → RefusedExactly r (hash_verify_error Z mode public context m signature) → accepted ≡ is_ok r → verdict m ≡ Ok accepted
  ended m r accepted none right short exact is =
      let size = signature_refusal Z (length signature) in
      let long = context_refusal key.ContextTooLong context in
      verdict_is (verifying_key_refusal Z public) (verify_refusal Z context m signature) (is_valid Z mode public context m signature) r none
      (decided size long (message_refusal key.MessageTooLong m) None right (fits m short)) exact
      ∙ ap (λ (x : Bool). Ok x) (sym is)
