-- The exit status and the word of each outcome.
use Rattle.std.specs.Prelude.{ℕ, Bool, true, false, List, Option, None, Some, Result, Ok, Err, codes}
use Rattle.slh_batch.specs.declared.checking.Place.{Place}
use Rattle.slh_batch.specs.declared.error.HeadError.TheVariants.{Form as NoHead}
use Rattle.slh_batch.specs.declared.error.HeadError.TheVariants.{Invalid as InvalidHead}
use Rattle.slh_batch.specs.declared.error.ReceiptError.{ReceiptError}
use Rattle.slh_batch.specs.declared.error.ReceiptError.TheVariants.{Form as NoReceipt, Message}
use Rattle.slh_batch.specs.declared.error.ReceiptError.TheVariants.{Invalid as InvalidReceipt}
use Rattle.slh_manifest.specs.declared.error.CheckError.{CheckError}
use Rattle.slh_manifest.specs.declared.error.CheckError.TheVariants.{Form as NoManifest, Fault}
use Rattle.slh_manifest.specs.declared.error.CheckError.TheVariants.{Invalid as InvalidManifest}
use Rattle.slh_manifest.specs.declared.error.CheckError.TheVariants.{Missing as MissingEntry}
use Rattle.slh_manifest.specs.declared.error.CheckError.TheVariants.{Differs as OtherEntry}
use Rattle.slh_envelope.specs.declared.error.OpenError.{OpenError}
use Rattle.slh_envelope.specs.declared.error.OpenError.TheVariants.{Form as NoEnvelope, PayloadType}
use Rattle.slh_envelope.specs.declared.error.OpenError.TheVariants.{Unsigned as NotSigned, Memory}
use Rattle.slh_envelope.specs.declared.error.OpenError.TheVariants.{Invalid as InvalidEnvelope}
use Rattle.slh_bytes.specs.declared.receipts.UnderHeadError.{UnderHeadError}
use Rattle.slh_bytes.specs.declared.receipts.UnderHeadError.TheVariants.{Head, Receipt}
use Rattle.slh_bytes.specs.declared.outcome.Outcome.{Outcome}
use Rattle.slh_bytes.specs.declared.outcome.Outcome.TheVariants.{Done, Accepted, Invalid, Genuine}
use Rattle.slh_bytes.specs.declared.outcome.Outcome.TheVariants.{Foreign, Shown, NotShown}
use Rattle.slh_bytes.specs.declared.outcome.Outcome.TheVariants.{Missing, Differs, Unnamed}
use Rattle.slh_bytes.specs.declared.outcome.Outcome.TheVariants.{Unsigned}

-- what is told of a signature that is or isn't accepted
abbrev pub outcome_of_signature : Bool → Outcome
outcome_of_signature true = Accepted
outcome_of_signature false = Invalid

-- what is told of evidence that shows or doesn't
abbrev pub outcome_of_evidence : Bool → Outcome
outcome_of_evidence true = Shown
outcome_of_evidence false = NotShown

-- what is told of a receipt that was checked, if it is a verdict
abbrev pub outcome_of_receipt : Result Place ReceiptError → Option Outcome
outcome_of_receipt (Ok _) = Some Accepted
outcome_of_receipt (Err NoReceipt) = None
outcome_of_receipt (Err Message) = None
outcome_of_receipt (Err InvalidReceipt) = Some Invalid

abbrev pub outcome_of_receipt_under_head : Result Place UnderHeadError → Option Outcome
outcome_of_receipt_under_head (Ok _) = Some Accepted
outcome_of_receipt_under_head (Err (Receipt error)) = outcome_of_receipt (Err error)
outcome_of_receipt_under_head (Err (Head NoHead)) = None
outcome_of_receipt_under_head (Err (Head InvalidHead)) = Some Invalid

-- what is told of a manifest that was checked, and of what stands there unnamed
abbrev pub outcome_of_manifest : Result (Unit {0}) CheckError → Bool → Option Outcome
outcome_of_manifest (Ok _) true = Some Unnamed
outcome_of_manifest (Ok _) false = Some Accepted
outcome_of_manifest (Err NoManifest) _ = None
outcome_of_manifest (Err Fault) _ = None
outcome_of_manifest (Err InvalidManifest) _ = Some Invalid
outcome_of_manifest (Err (MissingEntry _)) _ = Some Missing
outcome_of_manifest (Err (OtherEntry _)) _ = Some Differs

-- what is told of an envelope that wasn't opened, if it is a verdict
abbrev pub outcome_of_unopened : OpenError → Option Outcome
outcome_of_unopened NoEnvelope = None
outcome_of_unopened PayloadType = None
outcome_of_unopened NotSigned = Some Unsigned
outcome_of_unopened InvalidEnvelope = Some Invalid
outcome_of_unopened Memory = None

-- 1 for a verdict that says no
abbrev pub status_of : Outcome → ℕ
status_of Done = 0
status_of Accepted = 0
status_of Invalid = 1
status_of Genuine = 0
status_of Foreign = 1
status_of Shown = 0
status_of NotShown = 1
status_of Missing = 1
status_of Differs = 1
status_of Unnamed = 1
status_of Unsigned = 1

abbrev pub word_of : Outcome → List ℕ
word_of Done = codes ""
word_of Accepted = codes "accepted"
word_of Invalid = codes "invalid"
word_of Genuine = codes "genuine"
word_of Foreign = codes "foreign"
word_of Shown = codes "shown"
word_of NotShown = codes "not shown"
word_of Missing = codes "missing"
word_of Differs = codes "differs"
word_of Unnamed = codes "unnamed"
word_of Unsigned = codes "unsigned"
