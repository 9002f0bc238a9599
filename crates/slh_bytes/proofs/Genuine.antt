-- What is signed is found genuine by its audit, where the key's root is that of its seeds.
use Rattle.std.proofs.Common.{◌≡◌, ℕ, ◌≤◌, List, [], ◌∷◌, length, take, true, false, Option, None, Some, Ok, Err, unwrap_or, refl, sym, ◌∙◌, ap, if◌then◌else◌}
use Rattle.std.proofs.lemmas.Bool.Decides.{Decides-eqb}
use Rattle.std.proofs.lemmas.List.{append_assoc}
use Rattle.std.proofs.lemmas.Slice.Eq.{bytes_eq-Decides}
use Rattle.std.specs.Bool.{◌==◌}
use Rattle.std.specs.Str.{bytes_eq}
use Rattle.slh_audit.specs.Verdicts.{message_audit, verdict}
use Rattle.slh_audit.specs.declared.evidence.AuditError.TheVariants as audit
use Rattle.slh_audit.specs.declared.evidence.Verdict.TheVariants.{Genuine}
use Rattle.slh_core.proofs.Joins.{take_front}
use Rattle.slh_core.specs.Bytes.{part}
use Rattle.slh_core.specs.Parameters.{Scheme}
use Rattle.slh_core.specs.Suite.{HasLength}
use Rattle.slh_dsa.specs.Calls.{opt_rand_refusal, sign_input_refusal, signing_key_refusal}
use Rattle.slh_frames.specs.Frames.{mode_frame}
use Rattle.slh_dsa.specs.declared.error.Error.{Error as KeyError}
use Rattle.slh_jobs.specs.Judgement.{refused_or, verdict_answer}
use Rattle.slh_jobs.specs.declared.job.Answer.TheVariants.{Signature}
use Rattle.slh_jobs.specs.declared.job.Answer.TheVariants.{Verdict as VerdictAnswer}
use Rattle.slh_jobs.specs.declared.job.Error.TheVariants.{KeyMismatch}
use Rattle.slh_trees.proofs.Signatures.{checked_root-signature, length-digest_signature}
use Rattle.slh_trees.specs.Checking.{checked_root, signature_size}
use Rattle.slh_trees.specs.Keys.{top_root}
use Rattle.slh_trees.specs.Signing.{digest_signature, signature_of, signature_with}
use Rattle.slh_core.specs.Refusals.{context_refusal, first_refusal, message_refusal}
use Rattle.slh_dsa.specs.declared.error.Error.TheVariants.{ContextTooLong, MessageTooLong}
use Rattle.slh_bytes.specs.Jobs.{MadeIsGenuine, has_true_root}

front : (Z : Scheme) (s sk rand digest : List ℕ) → length rand ≡ Z.n → take Z.n (digest_signature Z s sk rand digest) ≡ rand
unfolding digest_signature
front Z s sk rand digest size = rw append_assoc (take_front Z.n rand _ size)

-- the audit of what a key makes with any randomizer
found_genuine : (Z : Scheme) (key rand framed : List ℕ) → HasLength Z.suite Z.n → 1 ≤ Z.d → length rand ≡ Z.n
    → verdict_answer (message_audit Z key framed (signature_with Z key rand framed))
    ≡ (if has_true_root Z key then Ok (VerdictAnswer Genuine) else Err KeyMismatch)
unfolding message_audit
found_genuine Z key rand framed law layers size =
    let s = part Z.n key 2 in
    let sk = part Z.n key 0 in
    let root = part Z.n key 3 in
    let sig = signature_with Z key rand framed in
    let digest = Z.suite.h_msg rand s root framed in
    let back : take Z.n sig ≡ rand = front Z s sk rand digest size in
    let made : sig ≡ digest_signature Z s sk (take Z.n sig) (Z.suite.h_msg (take Z.n sig) s root framed)
    = ap (λ (r : List ℕ). digest_signature Z s sk r (Z.suite.h_msg r s root framed)) (sym back) in
    let same = (bytes_eq-Decides _ _).1 made in
    let top = checked_root-signature Z key rand framed law layers size in
    (elim (bytes_eq root (top_root Z s sk)) as (λ own. bytes_eq root (top_root Z s sk) ≡ own
    → verdict_answer (if own then if bytes_eq (checked_root Z s root framed sig) root then Ok (verdict Z key framed sig) else Err audit.Invalid else Err audit.KeyMismatch)
    ≡ (if own then Ok (VerdictAnswer Genuine) else Err KeyMismatch)) [
      | true ↦ λ own.
          let leads = (bytes_eq-Decides (checked_root Z s root framed sig) root).1 (top ∙ sym ((bytes_eq-Decides root (top_root Z s sk)).0 own)) in
          rw (leads, same) refl
      | false ↦ λ other. refl
    ]) refl

none_stands : {E : Type 0} (first : Option E) (later : List (Option E)) → first_refusal (first ∷ later) ≡ None → (first ≡ None) × (first_refusal later ≡ None)
none_stands None later none = (refl, none)
none_stands (Some e) later none = cc none

-- a signature that was answered is the one that is made, and nothing was refused
not_refused : (refusal : Option KeyError) (made signature : List ℕ) → refused_or refusal (Ok (Signature made)) ≡ Ok (Signature signature)
    → (refusal ≡ None) × (made ≡ signature)
not_refused None made signature is = (refl, cc is)
not_refused (Some e) made signature is = cc is

pub made_is_genuine : (Z : Scheme) → HasLength Z.suite Z.n → 1 ≤ Z.d → MadeIsGenuine Z
made_is_genuine Z law layers mode key context message signature randomizer signed =
    let framed = mode_frame mode context message in
    let s = part Z.n key 2 in
    let opt = unwrap_or randomizer s in
    let rand = Z.suite.prf_msg (part Z.n key 1) opt framed in
    let rand_len : length rand ≡ Z.n = law.prf_msg (part Z.n key 1) opt framed in
    let whole = not_refused _ (signature_of Z key randomizer framed) signature signed in
    let halves = none_stands (signing_key_refusal Z key) (sign_input_refusal Z context randomizer message ∷ []) whole.0 in
    let inputs = (none_stands (sign_input_refusal Z context randomizer message) [] halves.1).0 in
    let too_long : Option KeyError = message_refusal MessageTooLong message in
    let fits = none_stands (context_refusal ContextTooLong context) (opt_rand_refusal Z randomizer ∷ too_long ∷ []) inputs in
    let given = none_stands (opt_rand_refusal Z randomizer) (too_long ∷ []) fits.1 in
    let short = (none_stands too_long [] given.1).0 in
    let made_len = length-digest_signature Z s (part Z.n key 0) rand (Z.suite.h_msg rand s (part Z.n key 3) framed) law rand_len in
    let sized : (length (signature_of Z key randomizer framed) == signature_size Z) ≡ true = (Decides-eqb _ _).1 made_len in
    rw (sym whole.1, halves.0, sized, fits.0, short) (found_genuine Z key rand framed law layers rand_len)
