use Rattle.std.proofs.lemmas.Grind.{common_steps}
use Rattle.std.proofs.Common.{rules, ◌≡◌, ◌∙◌, length, arith}
use Rattle.std.proofs.Math.Seq.{take-append_seam}
use Rattle.slh_batch.proofs.batch.sign_root.Goals as goal

pub returns-clause-value : goal.returns-clause-value
returns-clause-value g c =
    let long : c.in_ok-signature.signature.len ≡ length c.sign_checked.new.out = search rules in
    rw long (take-append_seam c.sign_checked.new.out _ ∙ rw c.fitting-message.ensures at c.sign_checked.ensures)

pub returns-in_err-signature : goal.returns-in_err-signature
returns-in_err-signature g c = grind (arith, common_steps)
