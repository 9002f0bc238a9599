-- What an audit answers, and the test of evidence. Z is the scheme, key a signing key.
use Rattle.std.specs.Prelude.{◌≡◌, ◌↔◌, ℕ, ◌*◌, Bool, if◌then◌else◌, List, [], ◌∷◌, length, take}
use Rattle.std.specs.Prelude.{Option, None, Some, Result, Ok, Err}
use Rattle.std.specs.Str.{bytes_eq}
use Rattle.slh_audit.specs.declared.evidence.AuditError.{AuditError}
use Rattle.slh_audit.specs.declared.evidence.AuditError.TheVariants.{Length, ContextTooLong}
use Rattle.slh_audit.specs.declared.evidence.AuditError.TheVariants.{MessageTooLong, KeyMismatch}
use Rattle.slh_audit.specs.declared.evidence.AuditError.TheVariants.{Invalid}
use Rattle.slh_audit.specs.declared.evidence.Evidence.{Evidence}
use Rattle.slh_audit.specs.declared.evidence.Verdict.{Verdict}
use Rattle.slh_audit.specs.declared.evidence.Verdict.TheVariants.{Genuine, Foreign}
use Rattle.slh_audit.specs.Evidence.{Dispute, dispute, dispute_of, shows}
use Rattle.slh_audit.specs.Places.{first_evidence}
use Rattle.slh_core.specs.Bytes.{part}
use Rattle.slh_core.specs.Parameters.{Scheme}
use Rattle.slh_trees.specs.Checking.{checked_root, digest_root, signature_size}
use Rattle.slh_frames.specs.Frames.{frame, mode_frame}
use Rattle.slh_frames.specs.declared.frame.Mode.{Mode}
use Rattle.slh_trees.specs.Keys.{top_root}
use Rattle.slh_trees.specs.Signing.{digest_signature, signature_with}
use Rattle.slh_core.specs.Refusals.{context_refusal, first_refusal, length_refusal, message_refusal}
use Rattle.slh_core.specs.Refusals.{unless_refused}

-- the first refusal by size, where there is one
abbrev pub size_refusal : Scheme → List ℕ → List ℕ → List ℕ → List ℕ → Option AuditError
size_refusal Z key context message sig = first_refusal
    (length_refusal Length (4 * Z.n) (length key)
    ∷ length_refusal Length (signature_size Z) (length sig)
    ∷ context_refusal ContextTooLong context ∷ message_refusal MessageTooLong message ∷ [])

-- by the first evidence. Where there is none, accepted bytes are those that the key makes: that is
-- the law of binding
abbrev pub foreign_by : Option Evidence → Verdict
foreign_by None = Genuine
foreign_by (Some e) = Foreign e

-- for accepted bytes: `Genuine` where the key makes them with their own randomizer, else `Foreign`
-- of the first evidence that shows. For a digest, a public seed s and a secret seed sk
abbrev pub digest_verdict : Scheme → List ℕ → List ℕ → List ℕ → List ℕ → Verdict
digest_verdict Z s sk digest sig =
    if bytes_eq sig (digest_signature Z s sk (take Z.n sig) digest)
    then Genuine
    else foreign_by (first_evidence (dispute Z s sk digest sig))

-- for a signing key and a message
abbrev pub verdict : Scheme → List ℕ → List ℕ → List ℕ → Verdict
verdict Z key message sig =
    let s = part Z.n key 2 in
    let digest = Z.suite.h_msg (take Z.n sig) s (part Z.n key 3) message in
    digest_verdict Z s (part Z.n key 0) digest sig

-- `KeyMismatch` where the key's root isn't that of its seeds,
-- `Invalid` where the bytes don't lead to it
unfoldable pub message_audit : Scheme → List ℕ → List ℕ → List ℕ → Result Verdict AuditError
message_audit Z key message sig =
    let s = part Z.n key 2 in
    let root = part Z.n key 3 in
    if bytes_eq root (top_root Z s (part Z.n key 0)) then
    if bytes_eq (checked_root Z s root message sig) root then Ok (verdict Z key message sig)
    else Err Invalid
    else Err KeyMismatch

-- H_msg of a message under a signing key's public parts, with the randomizer of a signature
abbrev pub digest_of : Scheme → List ℕ → List ℕ → List ℕ → List ℕ
digest_of Z key message sig =
    Z.suite.h_msg (take Z.n sig) (part Z.n key 2) (part Z.n key 3) message

-- the same, where the digest of the message is given
unfoldable pub digest_audit : Scheme → List ℕ → List ℕ → List ℕ → Result Verdict AuditError
digest_audit Z key digest sig =
    let s = part Z.n key 2 in
    let root = part Z.n key 3 in
    if bytes_eq root (top_root Z s (part Z.n key 0)) then
    if bytes_eq (digest_root Z s digest sig) root
    then Ok (digest_verdict Z s (part Z.n key 0) digest sig)
    else Err Invalid
    else Err KeyMismatch

-- what a key and a signature stand against each other as, where the digest is given
abbrev pub key_dispute : Scheme → List ℕ → List ℕ → List ℕ → Dispute
key_dispute Z key digest sig = dispute Z (part Z.n key 2) (part Z.n key 0) digest sig

-- a verdict is `Genuine` exactly where the bytes are what the key makes with their own randomizer
abbrev pub IsGenuineExactly : Scheme → List ℕ → List ℕ → List ℕ → Verdict → Type 0
IsGenuineExactly Z key message sig given =
    (given ≡ Genuine) ↔ (sig ≡ signature_with Z key (take Z.n sig) message)

-- the refusals where the signed message is given whole, which are those of the lengths of the key
-- and of the signature
abbrev pub length_refusals : Scheme → List ℕ → List ℕ → Option AuditError
length_refusals Z key sig = first_refusal
    (length_refusal Length (4 * Z.n) (length key)
    ∷ length_refusal Length (signature_size Z) (length sig) ∷ [])

abbrev pub framed_audit_answer : Scheme → List ℕ → List ℕ → List ℕ → Result Verdict AuditError
framed_audit_answer Z key message sig =
    unless_refused (length_refusals Z key sig) (message_audit Z key message sig)

abbrev pub framed_check_answer : Scheme → List ℕ → List ℕ → List ℕ → Evidence
    → Result Bool AuditError
framed_check_answer Z key message sig e =
    unless_refused (length_refusals Z key sig) (Ok (shows (dispute_of Z key message sig) e))

-- what is answered where the digest is given
abbrev pub digest_audit_answer : Scheme → List ℕ → List ℕ → List ℕ → Result Verdict AuditError
digest_audit_answer Z key digest sig =
    unless_refused (length_refusals Z key sig) (digest_audit Z key digest sig)

abbrev pub digest_check_answer : Scheme → List ℕ → List ℕ → List ℕ → Evidence
    → Result Bool AuditError
digest_check_answer Z key digest sig e =
    unless_refused (length_refusals Z key sig) (Ok (shows (key_dispute Z key digest sig) e))

abbrev pub audit_answer : Scheme → List ℕ → List ℕ → List ℕ → List ℕ → Result Verdict AuditError
audit_answer Z key context message sig =
    unless_refused (size_refusal Z key context message sig)
    (message_audit Z key (frame context message) sig)

abbrev pub check_answer : Scheme → List ℕ → List ℕ → List ℕ → List ℕ → Evidence
    → Result Bool AuditError
check_answer Z key context message sig e =
    unless_refused (size_refusal Z key context message sig)
    (Ok (shows (dispute_of Z key (frame context message) sig) e))

-- the same for what was signed in a mode
abbrev pub hash_audit_answer : Scheme → Mode → List ℕ → List ℕ → List ℕ → List ℕ
    → Result Verdict AuditError
hash_audit_answer Z mode key context message sig =
    unless_refused (size_refusal Z key context message sig)
    (message_audit Z key (mode_frame mode context message) sig)

abbrev pub hash_check_answer : Scheme → Mode → List ℕ → List ℕ → List ℕ → List ℕ → Evidence
    → Result Bool AuditError
hash_check_answer Z mode key context message sig e =
    unless_refused (size_refusal Z key context message sig)
    (Ok (shows (dispute_of Z key (mode_frame mode context message) sig) e))
