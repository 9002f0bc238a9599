-- The replies of the program. Z is the scheme of the line's set.
use Rattle.std.specs.Prelude.{ℕ, zero, suc, ◌==◌, ◌^◌, ◌&&◌, List, [], ◌++◌, length, map, codes}
use Rattle.std.specs.Prelude.{Bool, Option, None, Some, Result, Ok, Err, nat_le, nat_lt}
use Rattle.std.specs.Prelude.{if◌then◌else◌}
use Rattle.std.specs.List.{list_any}
use Rattle.std.specs.Str.{bytes_eq}
use Rattle.line_serve.specs.Fields.{field_at}
use Rattle.line_serve.specs.Texts.{hex_line}
use Rattle.slh_core.specs.Parameters.{Scheme}
use Rattle.slh_frames.specs.Frames.{frame}
use Rattle.slh_trees.specs.Signing.{signature_of}
use Rattle.slh_batch.specs.Calls.{accept_error}
use Rattle.slh_batch.specs.Receipts.{batch_context, batch_message, receipt_of}
use Rattle.slh_batch.specs.Tree.{batch_leaf}
use Rattle.slh_batch.specs.declared.error.ReceiptError.{ReceiptError}
use Rattle.slh_batch.specs.declared.error.ReceiptError.TheVariants.{Form, Invalid, Message}
use Rattle.slh_line.specs.Readings.{all_bytes_at, and_then, bytes_at, checked_randomizer}
use Rattle.slh_line.specs.Readings.{randomizer_at, signing_key, verifying_key}
use Rattle.slh_line.specs.Replies.{Answers}
use Rattle.slh_line.specs.declared.line_error.LineError.{LineError}
use Rattle.slh_line.specs.declared.line_error.LineError.TheVariants.{Command, Fields}

abbrev pub usage : List ℕ
usage = codes "usage: slh_batch_cli\n"

-- a line for each of the first k receipts of a batch with the digests q
unfoldable pub receipt_lines : List (List ℕ) → List ℕ → ℕ → List ℕ
receipt_lines q sig zero = []
receipt_lines q sig (suc k) =
    receipt_lines q sig k ++ hex_line (codes "receipt ") (receipt_of q sig k)

-- a line for the receipt of each message, in their order
abbrev pub sealed_text : Scheme → List ℕ → Option (List ℕ) → List (List ℕ) → List ℕ
sealed_text Z key opt_rand messages =
    let q = map batch_leaf messages in
    let sig = signature_of Z key opt_rand (frame batch_context (batch_message q)) in
    receipt_lines q sig (length messages)

-- a message is longer than a batch takes, which no line holds
abbrev pub is_long : List ℕ → Bool
is_long message = nat_lt (2 ^ 60) (length message)

-- what is answered to the messages of a line
abbrev pub seal_text : Scheme → List ℕ → Option (List ℕ) → List (List ℕ) → List ℕ
seal_text Z key opt_rand messages =
    if list_any is_long messages
    then codes "error message\n"
    else sealed_text Z key opt_rand messages

-- what is answered to a key, a randomizer and messages
abbrev pub seal_request : Scheme → List ℕ → Option (List ℕ) → List (List ℕ)
    → Result (List ℕ) LineError
seal_request Z key opt_rand messages =
    and_then (signing_key Z key) (λ key.
    and_then (checked_randomizer Z opt_rand) (λ opt_rand.
    Ok (seal_text Z key opt_rand messages)))

-- a line has a key, a randomizer, and 1 to 64 messages
abbrev pub seal_answer : Scheme → List (List ℕ) → Result (List ℕ) LineError
seal_answer Z fields =
    if nat_le 5 (length fields) && nat_le (length fields) 68 then
    and_then (bytes_at fields 2) (λ key.
    and_then (randomizer_at fields 3) (λ opt_rand.
    and_then (all_bytes_at fields 4) (λ messages.
    seal_request Z key opt_rand messages)))
    else Err Fields

abbrev pub accept_text : Option ReceiptError → List ℕ
accept_text None = codes "accepted\n"
accept_text (Some Form) = codes "error form\n"
accept_text (Some Message) = codes "error message\n"
accept_text (Some Invalid) = codes "error invalid\n"

-- what is answered to a verifying key, a message and a receipt
abbrev pub accept_request : Scheme → List ℕ → List ℕ → List ℕ → Result (List ℕ) LineError
accept_request Z key message receipt =
    and_then (verifying_key Z key) (λ key.
    Ok (accept_text (accept_error Z key message receipt)))

-- a line has these three
abbrev pub accept_answer : Scheme → List (List ℕ) → Result (List ℕ) LineError
accept_answer Z fields =
    if length fields == 5 then
    and_then (bytes_at fields 2) (λ key.
    and_then (bytes_at fields 3) (λ message.
    and_then (bytes_at fields 4) (λ receipt.
    accept_request Z key message receipt)))
    else Err Fields

abbrev pub batch_answers : Answers
batch_answers Z name fields =
    if bytes_eq (field_at fields 1) (codes "seal") then seal_answer Z fields
    else if bytes_eq (field_at fields 1) (codes "accept") then accept_answer Z fields
    else Err Command
