use Rattle.std.proofs.Common.{◌*◌, drop, map, arith}
use Rattle.slh_batch.proofs.Accepted.{batch_message_len}
use Rattle.slh_batch.proofs.Heads.{head_opens, head_says, message_under}
use Rattle.slh_batch.proofs.Under.{receipt_taken}
use Rattle.slh_batch.specs.Receipts.{batch_context, batch_message}
use Rattle.slh_batch.specs.Tree.{batch_leaf}
use Rattle.slh_frames.specs.declared.frame.Mode.TheVariants.{Pure}
use Rattle.slh_frames.specs.Frames.{frame}
use Rattle.slh_trees.specs.Signing.{signature_of}
use Rattle.slh_batch.proofs.laws.sealed_head_is_opened.Goals as goal

pub returns-clause-opens : goal.returns-clause-opens
returns-clause-opens g c = λ key messages opt_rand true_key size some few.
    let Z = g.P.ForsSizes.scheme in
    let q = map batch_leaf messages in
    let sig = signature_of Z key opt_rand (frame batch_context (batch_message q)) in
    head_opens Z (drop (2 * g.P.N.ArraySize.USIZE) key) messages sig some few
    (c.signed_is_accepted.ensures Pure key batch_context (batch_message q) opt_rand true_key size (omega arith) (batch_message_len messages some few))

pub returns-clause-says : goal.returns-clause-says
returns-clause-says g c = head_says

pub returns-clause-accepts : goal.returns-clause-accepts
returns-clause-accepts g c = message_under

pub returns-clause-takes : goal.returns-clause-takes
returns-clause-takes g c = λ key messages opt_rand i true_key size inside few short.
    let Z = g.P.ForsSizes.scheme in
    let q = map batch_leaf messages in
    let sig = signature_of Z key opt_rand (frame batch_context (batch_message q)) in
    receipt_taken Z (drop (2 * g.P.N.ArraySize.USIZE) key) messages sig i inside few short
    (c.signed_is_accepted.ensures Pure key batch_context (batch_message q) opt_rand true_key size (omega arith) (batch_message_len messages (omega arith) few))
