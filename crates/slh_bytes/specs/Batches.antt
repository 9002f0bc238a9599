-- The head and the receipts of a batch, and what is answered where one is signed by the bytes of a
-- key. Z is the scheme.
use Rattle.std.specs.Prelude.{◌≡◌, ℕ, zero, suc, ◌*◌, ◌==◌, List, [], ◌∷◌, ◌++◌, length}
use Rattle.std.specs.Prelude.{Option, None, Some, IfSome, if◌then◌else◌, unwrap_or}
use Rattle.slh_core.specs.Parameters.{Scheme}
use Rattle.slh_trees.specs.Signing.{signature_of}
use Rattle.slh_frames.specs.Frames.{frame}
use Rattle.slh_batch.specs.Calls.{seal_refusal}
use Rattle.slh_batch.specs.Heads.{head_of}
use Rattle.slh_batch.specs.Receipts.{batch_context, batch_message, receipt_of}
use Rattle.slh_batch.specs.declared.error.BatchError.{BatchError}
use Rattle.slh_batch.specs.declared.error.BatchError.TheVariants.{Memory}
use Rattle.slh_bytes.specs.declared.batches.SealError.{SealError}
use Rattle.slh_bytes.specs.declared.batches.SealError.TheVariants.{Batch, Receipts}

-- why no batch is signed by the bytes of a key, which callers have read as one of the set
abbrev pub sealing_refusal : Scheme → List ℕ → List (List ℕ) → Option (List ℕ) → Option BatchError
sealing_refusal Z key leaves opt_rand =
    if length key == 4 * Z.n then seal_refusal Z leaves opt_rand else Some Memory

-- a batch isn't signed for its refusal, or there is no memory; where something refuses it nothing
-- is handed out
abbrev pub RefusedBy : {E : Type 0} → Option BatchError → SealError E → Type 0
RefusedBy refusal (Batch error) = error ≡ unwrap_or refusal Memory
RefusedBy refusal (Receipts error) = refusal ≡ None

-- the signature of a batch
abbrev pub batch_signature : Scheme → List ℕ → Option (List ℕ) → List (List ℕ) → List ℕ
batch_signature Z key opt_rand leaves =
    signature_of Z key opt_rand (frame batch_context (batch_message leaves))

-- the receipts of the first messages, so many
abbrev pub receipts_to : List (List ℕ) → List ℕ → ℕ → List (List ℕ)
receipts_to leaves signature zero = []
receipts_to leaves signature (suc count) =
    receipts_to leaves signature count ++ receipt_of leaves signature count ∷ []

-- what a taker has: the last head that it took, and receipts in their order
pub record Taken : Type 0 where
  pub head : Option (List ℕ)
  pub receipts : List (List ℕ)

-- what had taken this, if it tells, took a head
abbrev pub TookHead : List ℕ → Option Taken → Option Taken → Type 0
TookHead head before after = IfSome before (λ taken.
    after ≡ Some (record { head = Some head; receipts = taken.receipts }))

-- it took one receipt more
abbrev pub TookReceipt : List ℕ → Option Taken → Option Taken → Type 0
TookReceipt receipt before after = IfSome before (λ taken.
    after ≡ Some (record { head = taken.head; receipts = taken.receipts ++ receipt ∷ [] }))

-- it took the head of a batch, and behind the receipts that it had the batch's first, so many
abbrev pub TookSome : List (List ℕ) → List ℕ → ℕ → Option Taken → Option Taken → Type 0
TookSome leaves signature count before after = IfSome before (λ taken.
    after ≡ Some (record {
      head = Some (head_of leaves signature);
      receipts = taken.receipts ++ receipts_to leaves signature count;
    }))

-- or all of them
abbrev pub TookAll : List (List ℕ) → List ℕ → Option Taken → Option Taken → Type 0
TookAll leaves signature before after =
    TookSome leaves signature (length leaves) before after

-- a batch is signed where nothing refuses it, and its head and each receipt are taken
pub record IsSealed (Z : Scheme) (key : List ℕ) (opt_rand : Option (List ℕ))
    (leaves : List (List ℕ)) (before after : Option Taken) : Type 0 where
  pub fits : sealing_refusal Z key leaves opt_rand ≡ None
  pub taken : TookAll leaves (batch_signature Z key opt_rand leaves) before after
