-- What signing answers for bytes that were read.
use Rattle.std.proofs.Common.{◌≡◌, ◌⊎◌, inl, inr, ℕ, ◌*◌, List, [], ◌∷◌, length, Option, None, Some, Result, Ok, Err, refl, ◌∙◌, ap, sym}
use Rattle.std.specs.Prelude.{IfErr, IfOk, IsErrAnd, unwrap_or}
use Rattle.slh_core.specs.Parameters.{Scheme}
use Rattle.slh_dsa.specs.Calls.{opt_rand_refusal, sign_input_refusal, signing_key_refusal}
use Rattle.slh_dsa.specs.declared.error.Error.{Error as KeyError}
use Rattle.slh_dsa.specs.declared.error.Error.TheVariants as key
use Rattle.slh_frames.specs.Frames.{frame, mode_frame}
use Rattle.slh_frames.specs.declared.frame.Mode.{Mode}
use Rattle.slh_frames.specs.declared.frame.Mode.TheVariants.{Pure, Sha256, Sha512}
use Rattle.slh_stream.specs.Digests.{begin_digest_refusal}
use Rattle.slh_stream.specs.Passes.{randomizer_for}
use Rattle.slh_bytes.proofs.Answered.{left_is_all}
use Rattle.slh_bytes.proofs.Causes.{begun, decided, fits, input_refused, key_cause, signature_is, signing_refused, too_long}
use Rattle.slh_bytes.specs.Answers.{EndsPass, IsSigned, IsSignedTwice, digest_answer, signing_answer}
use Rattle.slh_jobs.specs.Errors.{error_of}
use Rattle.slh_jobs.specs.Judgement.{answer_to}
use Rattle.slh_bytes.specs.Absorbing.{AbsorbsAll, IsAll}
use Rattle.slh_bytes.specs.Terms.{Terms}
use Rattle.slh_bytes.specs.declared.read_error.ReadError.{ReadError}
use Rattle.slh_bytes.specs.declared.read_error.ReadError.TheVariants.{Read, Refused, Changed}
use Rattle.slh_jobs.specs.declared.job.Error.{Error}
use Rattle.slh_jobs.specs.declared.job.Error.TheVariants as job
use Rattle.slh_jobs.specs.declared.job.Job.TheVariants.{Sign}
use Rattle.slh_core.specs.Refusals.{context_refusal, first_refusal, message_refusal}
use Rattle.slh_trees.specs.Signing.{signature_of}

two : {E : Type 0} (a b : Option E) → first_refusal (a ∷ b ∷ []) ≡ first_refusal (a ∷ b ∷ None ∷ [])
two (Some x) b = refl
two None (Some x) = refl
two None None = refl

module _ (Z : Scheme) (secret context : List ℕ) (opt_rand : Option (List ℕ)) where
  pub no_key : (mode : Mode) (e : KeyError) → signing_key_refusal Z secret ≡ Some e
      → (m : List ℕ) → signing_answer Z mode secret context opt_rand m ≡ Err (error_of e)
  no_key mode e is m =
      signing_refused (signing_key_refusal Z secret) (sign_input_refusal Z context opt_rand m)
      (answer_to Z (Sign mode secret context m opt_rand)) e is

  pub not_begun : (mode : Mode) (e : KeyError) → signing_key_refusal Z secret ≡ None → sign_input_refusal Z context opt_rand [] ≡ Some e
      → (m : List ℕ) → signing_answer Z mode secret context opt_rand m ≡ Err (error_of e)
  not_begun mode e none is m =
      input_refused (signing_key_refusal Z secret) (sign_input_refusal Z context opt_rand m)
      (answer_to Z (Sign mode secret context m opt_rand)) e none
      (begun (context_refusal key.ContextTooLong context) (opt_rand_refusal Z opt_rand) (message_refusal key.MessageTooLong m) e is)

  pub not_ended : (mode : Mode) → signing_key_refusal Z secret ≡ None → sign_input_refusal Z context opt_rand [] ≡ None
      → (m : List ℕ) (e : Error) → message_refusal job.MessageTooLong m ≡ Some e → signing_answer Z mode secret context opt_rand m ≡ Err e
  not_ended mode none right m e is =
      let (refused, same) = too_long m e is in
      input_refused (signing_key_refusal Z secret) (sign_input_refusal Z context opt_rand m)
      (answer_to Z (Sign mode secret context m opt_rand)) key.MessageTooLong none
      (decided (context_refusal key.ContextTooLong context) (opt_rand_refusal Z opt_rand) (message_refusal key.MessageTooLong m)
      (Some key.MessageTooLong) right refused)
      ∙ ap (λ (x : Error). Err x) (sym same)

  pub ended : (mode : Mode) (m signature : List ℕ) → signing_key_refusal Z secret ≡ None → sign_input_refusal Z context opt_rand [] ≡ None
      → message_refusal job.MessageTooLong m ≡ None → signature ≡ signature_of Z secret opt_rand (mode_frame mode context m)
      → signing_answer Z mode secret context opt_rand m ≡ Ok signature
  ended mode m signature none right short is =
      signature_is (signing_key_refusal Z secret) (sign_input_refusal Z context opt_rand m) signature
      (signature_of Z secret opt_rand (mode_frame mode context m)) none
      (decided (context_refusal key.ContextTooLong context) (opt_rand_refusal Z opt_rand) (message_refusal key.MessageTooLong m) None right
      (fits m short)) is

  -- by a digest

  pub no_digest_key : (mode : Mode) (e : KeyError) → signing_key_refusal Z secret ≡ Some e
      → (m : List ℕ) → digest_answer Z mode secret context opt_rand m ≡ Err (error_of e)
  no_digest_key Pure e is m =
      ap (λ (x : KeyError). Err (error_of x)) (sym (key_cause (4 * Z.n) (length secret) e is))
  no_digest_key Sha256 e is m = no_key Sha256 e is m
  no_digest_key Sha512 e is m = no_key Sha512 e is m

  inputs : first_refusal (context_refusal key.ContextTooLong context ∷ opt_rand_refusal Z opt_rand ∷ []) ≡ sign_input_refusal Z context opt_rand []
  inputs = two (context_refusal key.ContextTooLong context) (opt_rand_refusal Z opt_rand)

  pub no_digest : (mode : Mode) (e : KeyError) → signing_key_refusal Z secret ≡ None → begin_digest_refusal Z mode context opt_rand ≡ Some e
      → (m : List ℕ) → digest_answer Z mode secret context opt_rand m ≡ Err (error_of e)
  no_digest Pure e none is m = let same : key.Length ≡ e = cc is in ap (λ (x : KeyError). Err (error_of x)) same
  no_digest Sha256 e none is m = not_begun Sha256 e none (sym inputs ∙ is) m
  no_digest Sha512 e none is m = not_begun Sha512 e none (sym inputs ∙ is) m

  pub long_digest : (mode : Mode) → signing_key_refusal Z secret ≡ None → begin_digest_refusal Z mode context opt_rand ≡ None
      → (m : List ℕ) (e : Error) → message_refusal job.MessageTooLong m ≡ Some e → digest_answer Z mode secret context opt_rand m ≡ Err e
  long_digest Pure none right m e is = cc right
  long_digest Sha256 none right m e is = not_ended Sha256 none (sym inputs ∙ right) m e is
  long_digest Sha512 none right m e is = not_ended Sha512 none (sym inputs ∙ right) m e is

  pub digest_signed : (mode : Mode) (m signature : List ℕ) → signing_key_refusal Z secret ≡ None
      → begin_digest_refusal Z mode context opt_rand ≡ None → message_refusal job.MessageTooLong m ≡ None
      → signature ≡ signature_of Z secret opt_rand (mode_frame mode context m) → digest_answer Z mode secret context opt_rand m ≡ Ok signature
  digest_signed Pure m signature none right short is = cc right
  digest_signed Sha256 m signature none right short is = ended Sha256 m signature none (sym inputs ∙ right) short is
  digest_signed Sha512 m signature none right short is = ended Sha512 m signature none (sym inputs ∙ right) short is

  pub digest_ended : (mode : Mode) (Fault : Type 0) (left : Option (List ℕ)) (m : List ℕ) (result : Result (List ℕ) ReadError) → IsAll left m
      → signing_key_refusal Z secret ≡ None → begin_digest_refusal Z mode context opt_rand ≡ None → message_refusal job.MessageTooLong m ≡ None
      → IfOk result (λ signature. signature ≡ signature_of Z secret opt_rand (mode_frame mode context m))
      → IfErr result (λ e. e ≡ Refused job.Memory)
      → IsSigned Fault left (digest_answer Z mode secret context opt_rand) result
  digest_ended mode Fault left m (Ok signature) whole none right short value memory =
      inl (m, whole, digest_signed mode m signature none right short value)
  digest_ended mode Fault left m (Err e) whole none right short value memory = inr (ap (λ (x : ReadError). Err x) memory)

  -- by two passes
  module _ (Fault : Type 0) (left again : Option (List ℕ)) where
    abbrev Twice : Result (List ℕ) ReadError → Type 0
    Twice result = IsSignedTwice Z secret context opt_rand Fault left again result

    pub twice_refused : (result : Result (List ℕ) ReadError) (e : Error) → ((m : List ℕ) → signing_answer Z Pure secret context opt_rand m ≡ Err e)
        → IsErrAnd result (λ f. f ≡ Refused e) → Twice result
    twice_refused (Ok x) e refused never = absurd never
    twice_refused (Err f) e refused is = rw is (inr (unwrap_or left [], inl (left_is_all left), refused (unwrap_or left [])))

    pub pass_refused : {T : Type 0} (stands : T → Terms → List ℕ → Type 0) (old new : T) (terms : Terms) (Own : Type 0) (part : Option (List ℕ))
        (result : Result (List ℕ) ReadError) (f : ReadError) → stands old terms []
        → ((m : List ℕ) (e : Error) → message_refusal job.MessageTooLong m ≡ Some e → signing_answer Z Pure secret context opt_rand m ≡ Err e)
        → ((m : List ℕ) → IsAll part m → IsAll left m ⊎ IsAll again m) → (Own → Fault)
        → AbsorbsAll stands old new Own part (Err f) → IsErrAnd result (λ x. x ≡ f) → Twice result
    unfolding AbsorbsAll
    pass_refused stands old new terms Own part (Ok x) f begun long side fault ends never = absurd never
    pass_refused stands old new terms Own part (Err x) (Read error) begun long side fault failed is = rw is (fault failed)
    pass_refused stands old new terms Own part (Err x) (Refused e) begun long side fault (all, whole, refused) is =
        rw is (inr (all, side all whole, long all e (refused terms begun)))
    pass_refused stands old new terms Own part (Err x) Changed begun long side fault never is = absurd never

    pub pass_ended : (passes : List ℕ → Option (List ℕ) → List ℕ → List ℕ → Type 0) (rand first second : List ℕ) (result : Result (List ℕ) ReadError)
        → IsAll left first → IsAll again second → rand ≡ randomizer_for Z secret opt_rand (frame context first)
        → passes secret opt_rand context second → signing_key_refusal Z secret ≡ None → sign_input_refusal Z context opt_rand [] ≡ None
        → message_refusal job.MessageTooLong second ≡ None → EndsPass Z passes rand result → Twice result
    unfolding EndsPass
    pass_ended passes rand first second (Ok signature) whole whole' rand_is stood none right short ends =
        let (same, value) = ends secret opt_rand context second stood in
        (first, second, whole, whole', sym (same ∙ rand_is), ended Pure second signature none right short value)
    pass_ended passes rand first second (Err (Read fault)) whole whole' rand_is stood none right short ends = absurd ends
    pass_ended passes rand first second (Err (Refused e)) whole whole' rand_is stood none right short ends = inl ends
    pass_ended passes rand first second (Err Changed) whole whole' rand_is stood none right short ends =
        (first, second, whole, whole', λ same. ends secret opt_rand context second stood (sym same ∙ sym rand_is))
