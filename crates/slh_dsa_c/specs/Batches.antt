-- What checking the receipt of a message answers, opening the head of a batch and checking a message
-- under it, by the numbers of the header.
use Rattle.std.specs.Prelude.{ℕ, ◌*◌, ◌^◌, ◌==◌, ◌&&◌, List, length, nat_le, if◌then◌else◌}
use Rattle.std.specs.Prelude.{Option, None, Some, Result, Ok, Err}
use Rattle.slh_batch.specs.Calls.{accept_error, open_error, under_error}
use Rattle.slh_batch.specs.Heads.{head_count, head_root, unsigned_head}
use Rattle.slh_batch.specs.declared.error.HeadError.{HeadError}
use Rattle.slh_batch.specs.declared.error.HeadError.TheVariants as opening
use Rattle.slh_batch.specs.declared.error.ReceiptError.{ReceiptError}
use Rattle.slh_batch.specs.declared.error.ReceiptError.TheVariants.{Form, Message, Invalid}
use Rattle.slh_core.specs.Parameters.{Scheme}
use Rattle.slh_dsa_c.specs.Logs.{in_digests}
use Rattle.slh_dsa_c.specs.Status.{in_set, status_of}
use Rattle.slh_dsa_c.specs.declared.batches.CBatchHead.{CBatchHead}
use Rattle.slh_sets.specs.Sets.{scheme_numbered}

-- the numbers of the causes
abbrev pub receipt_number : ReceiptError → ℕ
receipt_number Form = 14
receipt_number Message = 8
receipt_number Invalid = 1

abbrev pub number_of_receipt : Option ReceiptError → ℕ
number_of_receipt None = 0
number_of_receipt (Some refusal) = receipt_number refusal

-- why a receipt isn't accepted by a verifying key's bytes
abbrev pub accept_number : Scheme → List ℕ → List ℕ → List ℕ → ℕ
accept_number Z key message receipt =
    if length key == 2 * Z.n then number_of_receipt (accept_error Z key message receipt) else 5

abbrev pub accept_status : ℕ → List ℕ → List ℕ → List ℕ → ℕ
accept_status set key message receipt = in_set (scheme_numbered set) (λ Z.
    accept_number Z key message receipt)

abbrev pub head_number : HeadError → ℕ
head_number opening.Form = 14
head_number opening.Invalid = 1

-- what a head says, unless there is a refusal
abbrev pub head_or_number : Option HeadError → List ℕ → Result CBatchHead ℕ
head_or_number None head = Ok (record { count = head_count head; root = head_root head })
head_or_number (Some refusal) head = Err (head_number refusal)

-- what opening a head under a verifying key's bytes gives, or the number of the refusal
abbrev pub head_answer : Scheme → List ℕ → List ℕ → Result CBatchHead ℕ
head_answer Z key head =
    if length key == 2 * Z.n then head_or_number (open_error Z key head) head else Err 5

abbrev pub head_status : ℕ → List ℕ → List ℕ → ℕ
head_status set key head = in_set (scheme_numbered set) (λ Z. status_of (head_answer Z key head))

-- why a path doesn't show that message `index` of a batch is this one
abbrev pub under_status : CBatchHead → ℕ → List ℕ → List ℕ → ℕ
under_status head index message path = in_digests path (λ digests.
    if nat_le 1 head.count && nat_le head.count (2 ^ 20)
    then number_of_receipt
    (under_error (unsigned_head head.count head.root) message index digests)
    else 14)
