-- What audits answer for bytes that were read.
use Rattle.std.proofs.Common.{◌≡◌, ℕ, ◌-◌, ◌*◌, ◌+◌, List, [], ◌∷◌, length, take, drop, Bool, Option, None, Some, Result, Ok, Err, refl, ◌∙◌, ap, arith}
use Rattle.std.specs.Prelude.{IsErrAnd, unwrap_or}
use Rattle.std.specs.Bool.{◌==◌}
use Rattle.std.proofs.lemmas.List.{drop-drop}
use Rattle.slh_audit.proofs.Answered.{by_digest}
use Rattle.slh_audit.specs.Evidence.{dispute_of, shows}
use Rattle.slh_audit.specs.Verdicts.{digest_audit, digest_audit_answer, digest_check_answer, digest_of, length_refusals}
use Rattle.slh_audit.specs.declared.evidence.AuditError.{AuditError}
use Rattle.slh_audit.specs.declared.evidence.AuditError.TheVariants as audit
use Rattle.slh_audit.specs.declared.evidence.Evidence.{Evidence}
use Rattle.slh_audit.specs.declared.evidence.Verdict.{Verdict}
use Rattle.slh_core.specs.Bytes.{part}
use Rattle.slh_core.specs.Parameters.{Scheme}
use Rattle.slh_dsa.specs.Calls.{signature_refusal, signing_key_refusal, verify_refusal}
use Rattle.slh_dsa.specs.declared.error.Error.{Error as KeyError}
use Rattle.slh_dsa.specs.declared.error.Error.TheVariants as key
use Rattle.slh_bytes.specs.Jobs.{shown_by, verdict_by}
use Rattle.slh_frames.specs.Frames.{mode_frame}
use Rattle.slh_frames.specs.declared.frame.Mode.{Mode}
use Rattle.slh_bytes.proofs.Answered.{left_is_all}
use Rattle.slh_bytes.proofs.Causes.{begun, decided, fits, too_long}
use Rattle.slh_bytes.specs.Answers.{IsAnswer}
use Rattle.slh_bytes.specs.Digested.{IsDigested}
use Rattle.slh_bytes.specs.Absorbing.{AbsorbsAll}
use Rattle.slh_bytes.specs.Terms.{Terms}
use Rattle.slh_bytes.specs.declared.read_error.ReadError.{ReadError}
use Rattle.slh_bytes.specs.declared.read_error.ReadError.TheVariants.{Read, Refused, Changed}
use Rattle.slh_jobs.specs.Errors.{audit_error_of, error_of}
use Rattle.slh_jobs.specs.Judgement.{audit_refusal, judgement, refused_or, verdict_answer}
use Rattle.slh_jobs.specs.declared.job.Answer.{Answer}
use Rattle.slh_jobs.specs.declared.job.Error.{Error}
use Rattle.slh_jobs.specs.declared.job.Error.TheVariants as job
use Rattle.slh_jobs.specs.declared.job.Job.TheVariants.{Audit, Check}
use Rattle.slh_stream.specs.Verifying.{message_digest}
use Rattle.slh_core.proofs.Refusals.{first_none, no_cause, none_first, passed}
use Rattle.slh_trees.specs.Checking.{signature_size}
use Rattle.slh_core.specs.Refusals.{context_refusal, first_refusal, message_refusal}

-- the parts of the public half of a key

second_seed : (n : ℕ) (secret : List ℕ) → part n (drop (2 * n) secret) 0 ≡ part n secret 2
second_seed n secret =
    let len : (0 + 1) * n - 0 * n ≡ (2 + 1) * n - 2 * n = omega arith in
    let from : 2 * n + 0 * n ≡ 2 * n = omega arith in
    ap (λ (k : ℕ). take k (drop (0 * n) (drop (2 * n) secret))) len
    ∙ ap (λ (xs : List ℕ). take ((2 + 1) * n - 2 * n) xs) (drop-drop (0 * n) (2 * n) secret ∙ ap (λ (k : ℕ). drop k secret) from)

second_root : (n : ℕ) (secret : List ℕ) → part n (drop (2 * n) secret) 1 ≡ part n secret 3
second_root n secret =
    let len : (1 + 1) * n - 1 * n ≡ (3 + 1) * n - 3 * n = omega arith in
    let from : 2 * n + 1 * n ≡ 3 * n = omega arith in
    ap (λ (k : ℕ). take k (drop (1 * n) (drop (2 * n) secret))) len
    ∙ ap (λ (xs : List ℕ). take ((3 + 1) * n - 3 * n) xs) (drop-drop (1 * n) (2 * n) secret ∙ ap (λ (k : ℕ). drop k secret) from)

pub same_digest : (Z : Scheme) (n : ℕ) → Z.n ≡ n → (mode : Mode) (secret public context m signature : List ℕ) → public ≡ drop (2 * n) secret
    → message_digest Z mode public context m signature ≡ digest_of Z secret (mode_frame mode context m) signature
same_digest Z n size mode secret public context m signature is =
    let is_now : public ≡ drop (2 * Z.n) secret = rw size is in
    let seed : part Z.n public 0 ≡ part Z.n secret 2 = ap (λ (k : List ℕ). part Z.n k 0) is_now ∙ second_seed Z.n secret in
    let root : part Z.n public 1 ≡ part Z.n secret 3 = ap (λ (k : List ℕ). part Z.n k 1) is_now ∙ second_root Z.n secret in
    let framed = mode_frame mode context m in
    ap (λ (s : List ℕ). Z.suite.h_msg (take Z.n signature) s (part Z.n public 1) framed) seed
    ∙ ap (λ (r : List ℕ). Z.suite.h_msg (take Z.n signature) (part Z.n secret 2) r framed) root

-- why nothing is audited

module _ (Z : Scheme) (secret context signature : List ℕ) where
  abbrev refusal : List ℕ → Option KeyError
  refusal m = audit_refusal Z secret context m signature

  pub no_key : (e : KeyError) → signing_key_refusal Z secret ≡ Some e → (m : List ℕ) → refusal m ≡ Some e
  no_key e is m = rw is refl

  sized : (k size r : Option KeyError) → k ≡ None → size ≡ r → first_refusal (k ∷ size ∷ []) ≡ r
  sized k size None none is = rw (none, is) refl
  sized k size (Some e) none is = rw (none, is) refl

  pub not_begun : (e : KeyError) → signing_key_refusal Z secret ≡ None → verify_refusal Z context [] signature ≡ Some e
      → (m : List ℕ) → refusal m ≡ Some e
  not_begun e none is m =
      let size = signature_refusal Z (length signature) in
      let long = context_refusal key.ContextTooLong context in
      sized (signing_key_refusal Z secret) (verify_refusal Z context m signature) (Some e) none (begun size long (message_refusal key.MessageTooLong m) e is)

  pub not_ended : signing_key_refusal Z secret ≡ None → verify_refusal Z context [] signature ≡ None
      → (m : List ℕ) (e : Error) → message_refusal job.MessageTooLong m ≡ Some e → (k : KeyError) × (refusal m ≡ Some k) × (e ≡ error_of k)
  not_ended none right m e is =
      let size = signature_refusal Z (length signature) in
      let long = context_refusal key.ContextTooLong context in
      let (refused, same) = too_long m e is in (
        key.MessageTooLong,
        sized (signing_key_refusal Z secret) (verify_refusal Z context m signature) (Some key.MessageTooLong) none
            (decided size long (message_refusal key.MessageTooLong m) (Some key.MessageTooLong) right refused),
        same,
      )

  pub ended : signing_key_refusal Z secret ≡ None → verify_refusal Z context [] signature ≡ None
      → (m : List ℕ) → message_refusal job.MessageTooLong m ≡ None → refusal m ≡ None
  ended none right m short =
      let size = signature_refusal Z (length signature) in
      let long = context_refusal key.ContextTooLong context in
      sized (signing_key_refusal Z secret) (verify_refusal Z context m signature) None none
      (decided size long (message_refusal key.MessageTooLong m) None right (fits m short))

  -- the lengths are right then
  pub no_length : (m : List ℕ) → refusal m ≡ None → length_refusals Z secret signature ≡ None
  no_length m none =
      let keyed = first_none (signing_key_refusal Z secret) (verify_refusal Z context m signature ∷ []) none in
      let sizes = (first_none (verify_refusal Z context m signature) [] keyed.1).0 in
      let long = context_refusal key.ContextTooLong context in
      let signed = (first_none (signature_refusal Z (length signature)) (long ∷ message_refusal key.MessageTooLong m ∷ []) sizes).0 in
      let of_key = no_cause (length secret == 4 * Z.n) audit.Length (passed (length secret == 4 * Z.n) key.Length keyed.0) in
      let of_signature = no_cause (length signature == signature_size Z) audit.Length (passed (length signature == signature_size Z) key.Length signed) in
      none_first _ _ of_key (none_first _ _ of_signature refl)

  module _ (mode : Mode) (Fault : Type 0) (left : Option (List ℕ)) (out : List ℕ) where
    abbrev Digested : Result (Unit {0}) ReadError → Type 0
    Digested result = IsDigested Z mode secret context signature Fault left out result

    pub digested_before : (result : Result (Unit {0}) ReadError) (e : KeyError) → ((m : List ℕ) → refusal m ≡ Some e)
        → IsErrAnd result (λ f. f ≡ Refused (error_of e)) → Digested result
    digested_before (Ok x) e refused never = absurd never
    digested_before (Err f) e refused is = rw is (unwrap_or left [], left_is_all left, e, refused (unwrap_or left []), refl)

    pub digested_within : {T : Type 0} (stands : T → Terms → List ℕ → Type 0) (old new : T) (terms : Terms)
        (result : Result (Unit {0}) ReadError) (f : ReadError) → stands old terms []
        → ((m : List ℕ) (e : Error) → message_refusal job.MessageTooLong m ≡ Some e → (k : KeyError) × (refusal m ≡ Some k) × (e ≡ error_of k))
        → AbsorbsAll stands old new Fault left (Err f) → IsErrAnd result (λ x. x ≡ f) → Digested result
    unfolding AbsorbsAll
    digested_within stands old new terms (Ok x) f start long ends never = absurd never
    digested_within stands old new terms (Err x) (Read fault) start long failed is = rw is failed
    digested_within stands old new terms (Err x) (Refused e) start long (all, whole, refused) is =
        let (k, first, same) = long all e (refused terms start) in rw is (all, whole, k, first, same)
    digested_within stands old new terms (Err x) Changed start long never is = absurd never

    -- what isn't digested isn't answered
    pub undigested : {U : Type 0} (by : Result Answer Error → Result U Error) → ((e : Error) → by (Err e) ≡ Err e)
        → (answer : List ℕ → Result Answer Error) (result : Result U ReadError) (f : ReadError)
        → Digested (Err f) → IsErrAnd result (λ x. x ≡ f) → IsAnswer Fault left (λ m. by (refused_or (refusal m) (answer m))) result
    undigested by errs answer (Ok x) f told never = absurd never
    undigested by errs answer (Err x) (Read fault) failed is = rw is failed
    undigested by errs answer (Err x) (Refused e) (m, whole, k, refused, same) is = rw is (m, whole, rw (refused, same) (errs (error_of k)))
    undigested by errs answer (Err x) Changed never is = absurd never

    -- an audit

    abbrev told : Result Verdict AuditError → Result Verdict Error
    told (Ok verdict) = Ok verdict
    told (Err e) = Err (audit_error_of e)

    as_told : (a : Result Verdict AuditError) → verdict_by (verdict_answer a) ≡ told a
    as_told (Ok verdict) = refl
    as_told (Err e) = refl

    pub judged : (m : List ℕ) (answer : Result Verdict AuditError) → refusal m ≡ None → out ≡ digest_of Z secret (mode_frame mode context m) signature
        → answer ≡ digest_audit_answer Z secret out signature → verdict_by (judgement Z (Audit mode secret context m signature)) ≡ told answer
    judged m answer none digest is =
        let short : answer ≡ digest_audit Z secret out signature = rw (no_length m none) at is in
        let whole = by_digest Z secret (mode_frame mode context m) signature out answer digest short in
        rw (none, ← whole) (as_told answer)

    pub audited : (done : Unit {0}) (verdict : Verdict) → Digested (Ok done) → Ok verdict ≡ digest_audit_answer Z secret out signature
        → IsAnswer Fault left (λ m. verdict_by (judgement Z (Audit mode secret context m signature))) (Ok verdict)
    audited done verdict (m, whole, none, digest) is = (m, whole, judged m (Ok verdict) none digest is)

    pub refused : (done : Unit {0}) (e : AuditError) (result : Result Verdict ReadError) → Digested (Ok done)
        → Err e ≡ digest_audit_answer Z secret out signature → IsErrAnd result (λ x. x ≡ Refused (audit_error_of e))
        → IsAnswer Fault left (λ m. verdict_by (judgement Z (Audit mode secret context m signature))) result
    refused done e (Ok x) told_so is never = absurd never
    refused done e (Err x) (m, whole, none, digest) is same = rw same (m, whole, judged m (Err e) none digest is)

    -- a check of evidence

    pub checked : (evidence : Evidence) (done : Unit {0}) (shown : Bool) → Digested (Ok done)
        → Ok shown ≡ digest_check_answer Z secret out signature evidence
        → IsAnswer Fault left (λ m. shown_by (judgement Z (Check mode secret context m signature evidence))) (Ok shown)
    checked evidence done shown (m, whole, none, digest) is =
        let short = rw (no_length m none, digest) at is in
        let value : shown ≡ shows (dispute_of Z secret (mode_frame mode context m) signature) evidence = cc short in
        (m, whole, rw (none, value) refl)

    pub not_checked : (evidence : Evidence) (done : Unit {0}) (e : AuditError) → Digested (Ok done)
        → ◌≡◌ {A = Result Bool AuditError} (Err e) (digest_check_answer Z secret out signature evidence) → ⊥
    not_checked evidence done e (m, whole, none, digest) is =
        let short = rw (no_length m none) at is in cc short
