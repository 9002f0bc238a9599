-- What is answered of a receipt under the bytes of a verifying key, and under a head of that key.
-- Z is the scheme.
use Rattle.std.specs.Prelude.{◌≡◌, ℕ, ◌*◌, ◌==◌, List, [], ◌∷◌, length}
use Rattle.std.specs.Prelude.{Option, Some, if◌then◌else◌}
use Rattle.std.specs.Option.{option_map}
use Rattle.slh_core.specs.Parameters.{Scheme}
use Rattle.slh_core.specs.Refusals.{first_refusal}
use Rattle.slh_batch.specs.Calls.{accept_error, open_error, receipt_under_error}
use Rattle.slh_batch.specs.Heads.{head_in}
use Rattle.slh_batch.specs.Receipts.{receipt_count, receipt_index}
use Rattle.slh_batch.specs.declared.checking.Place.{Place}
use Rattle.slh_batch.specs.declared.error.HeadError.{HeadError}
use Rattle.slh_batch.specs.declared.error.HeadError.TheVariants.{Form as NoHead}
use Rattle.slh_batch.specs.declared.error.ReceiptError.{ReceiptError}
use Rattle.slh_batch.specs.declared.error.ReceiptError.TheVariants.{Form}
use Rattle.slh_bytes.specs.declared.receipts.UnderHeadError.{UnderHeadError}
use Rattle.slh_bytes.specs.declared.receipts.UnderHeadError.TheVariants.{Head, Receipt}

-- why a receipt isn't accepted; bytes that are no key of the set have no receipt
abbrev pub receipt_refusal : Scheme → List ℕ → List ℕ → List ℕ → Option ReceiptError
receipt_refusal Z key message receipt =
    if length key == 2 * Z.n then accept_error Z key message receipt else Some Form

-- why a head isn't opened; bytes that are no key of the set have no head
abbrev pub opening_refusal : Scheme → List ℕ → List ℕ → Option HeadError
opening_refusal Z key head =
    if length key == 2 * Z.n then open_error Z key head else Some NoHead

-- why a receipt isn't accepted under the bytes of a head: those aren't opened, or the receipt isn't
-- one of what they say
abbrev pub under_head_refusal : Scheme → List ℕ → List ℕ → List ℕ → List ℕ
    → Option UnderHeadError
under_head_refusal Z key head message receipt = first_refusal
    (option_map Head (opening_refusal Z key head)
    ∷ option_map Receipt (receipt_under_error Z (head_in head) message receipt) ∷ [])

-- which message of how many a receipt is for
pub record IsPlaceOf (receipt : List ℕ) (place : Place) : Type 0 where
  pub index : place.index ≡ receipt_index receipt
  pub count : place.count ≡ receipt_count receipt
