use Rattle.std.proofs.Common.{◌≡◌, None, Some, ◌∙◌}
use Rattle.slh_batch.specs.Calls.{open_error, receipt_under_error}
use Rattle.slh_batch.specs.Heads.{head_in}
use Rattle.slh_batch.specs.declared.error.HeadError.TheVariants.{Form}
use Rattle.slh_bytes.proofs.Keys.{one_key}
use Rattle.slh_bytes.proofs.Opened.{accepted, head_refused}
use Rattle.slh_bytes.proofs.receipts.AcceptingUnderOnSet.on.Goals as goal
use Rattle.slh_bytes.specs.Receipts.{opening_refusal}

pub returns-in-Err : goal.returns-in-Err
returns-in-Err g c =
    let Z = g.P.ForsSizes.scheme in
    let key = c.args.self.key.now in
    let head = c.args.self.head.now in
    let opened = rw c.in-Ok.ensures.value at c.in-Err.ensures.refusal in (
      head_refused (opening_refusal Z key head) (receipt_under_error Z (head_in head) c.args.self.message.now c.args.self.receipt.now) _
          (one_key _ (open_error Z key head) (Some Form) c.in-Ok.ensures.refusal ∙ opened),
      tt,
    )

pub returns-in-Ok-accept_receipt_under : goal.returns-in-Ok-accept_receipt_under
returns-in-Ok-accept_receipt_under g c =
    let Z = g.P.ForsSizes.scheme in
    let key = c.args.self.key.now in
    let head = c.args.self.head.now in
    let under = receipt_under_error Z (head_in head) c.args.self.message.now c.args.self.receipt.now in
    let opened : open_error Z key head ≡ None = rw c.in-Ok.ensures.value at c.in-Ok-open.ensures.refusal in
    let taken : under ≡ None = rw c.in-Ok-open.ensures.head at c.in-Ok-accept_receipt_under.ensures.refusal in (
      accepted (opening_refusal Z key head) under (one_key _ (open_error Z key head) (Some Form) c.in-Ok.ensures.refusal ∙ opened) taken,
      record { index = c.in-Ok-accept_receipt_under.ensures.index; count = c.in-Ok-accept_receipt_under.ensures.count },
    )
