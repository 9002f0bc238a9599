use Rattle.std.proofs.lemmas.Grind.{common_steps}
use Rattle.std.proofs.Common.{rules, ◌≡◌, ◌∙◌, length, arith}
use Rattle.std.proofs.Math.Seq.{take-append_seam}
use Rattle.slh_manifest.proofs.builder.sign_body.Goals as goal

pub returns : goal.returns
returns g c =
    let long : c.in_ok-signature.signature.len ≡ length c.sign_checked.new.out = search rules in
    rw long (take-append_seam c.sign_checked.new.out _ ∙ rw c.fitting-message.ensures at c.sign_checked.ensures)

pub returns-in_err-signature : goal.returns-in_err-signature
returns-in_err-signature g c = grind (arith, common_steps)

pub sign_checked-requires : goal.sign_checked-requires
sign_checked-requires g c = grind (arith, common_steps)
