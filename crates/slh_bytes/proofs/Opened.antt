-- Why a receipt isn't accepted under a head, where the head is opened and where it isn't.
use Rattle.std.proofs.Common.{◌≡◌, [], ◌∷◌, Option, None, Some, refl}
use Rattle.std.specs.Option.{option_map}
use Rattle.slh_batch.specs.declared.error.HeadError.{HeadError}
use Rattle.slh_batch.specs.declared.error.ReceiptError.{ReceiptError}
use Rattle.slh_bytes.specs.declared.receipts.UnderHeadError.TheVariants.{Head, Receipt}
use Rattle.slh_core.specs.Refusals.{first_refusal}

pub head_refused : (opening : Option HeadError) (receipt : Option ReceiptError) (e : HeadError) → opening ≡ Some e
    → first_refusal (option_map Head opening ∷ option_map Receipt receipt ∷ []) ≡ Some (Head e)
head_refused opening receipt e is = rw is refl

pub accepted : (opening : Option HeadError) (receipt : Option ReceiptError) → opening ≡ None → receipt ≡ None
    → first_refusal (option_map Head opening ∷ option_map Receipt receipt ∷ []) ≡ None
accepted opening receipt none none' = rw (none, none') refl
