use Rattle.std.proofs.lemmas.Grind.{common_steps}
use Rattle.std.proofs.Common.{◌≡◌, ◌≤◌, ◌^◌, length, ap, ◌∙◌, arith}
use Rattle.slh_log.proofs.MadeNote.{text_short}
use Rattle.slh_log.specs.Texts.{checkpoint_text}
use Rattle.slh_log.proofs.making.checkpoint.Goals as goal

pub signed_text-requires : goal.signed_text-requires
signed_text-requires g c =
    let short = text_short c.args.origin.now c.args.size c.args.root.now c.in_ok-check_checkpoint.ensures.origin c.ranges.size.fits c.told-root in
    let same : length c.as_slice.result.now ≡ length (checkpoint_text c.args.origin.now c.args.size c.args.root.now) = ap length (c.as_slice.ensures.value ∙ c.in_ok-note.ensures) in
    record {
      text = omega (arith, short, same);
      opt_rand = c.in_ok-check_checkpoint.ensures.fits;
    }

pub returns-in_err-note : goal.returns-in_err-note
returns-in_err-note g c = grind (arith, common_steps)

pub returns-in_err-signed : goal.returns-in_err-signed
returns-in_err-signed g c = grind (arith, common_steps)

pub returns-in_err-push_line : goal.returns-in_err-push_line
returns-in_err-push_line g c = grind (arith, common_steps)
