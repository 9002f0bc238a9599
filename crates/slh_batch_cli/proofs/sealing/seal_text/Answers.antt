use Rattle.std.proofs.Common.{◌∙◌, ap, inl, inr, Ok, refl}
use Rattle.slh_batch_cli.proofs.sealing.seal_text.Goals as goal

pub returns-in-Ok-seal : goal.returns-in-Ok-seal
returns-in-Ok-seal g c = elim c.lines_of.ensures [
  | inl lines ↦ inl (lines ∙ ap Ok (rw (c.in-Ok.ensures.fits, c.in-Ok-seal.ensures.signature, c.in-Ok-seal.ensures.leaves, c.in-Ok.ensures.value, c.len.ensures) refl))
  | inr memory ↦ inr memory
]
