use Rattle.std.proofs.lemmas.Grind.{common_steps}
use Rattle.std.proofs.Common.{◌∙◌, ap, arith}
use Rattle.std.specs.Option.{option_copied}
use Rattle.slh_manifest.specs.Manifest.{body_bytes}
use Rattle.slh_manifest.proofs.Sealed.{sealed}
use Rattle.slh_manifest.proofs.builder.Builder.seal.Goals as goal

pub returns-clause-value : goal.returns-clause-value
returns-clause-value g c =
    sealed g.P.ForsSizes.scheme c.args.key.now (option_copied c.args.opt_rand) c.args.self c.in_ok-manifest.manifest.items c.deref-2.result.now c.deref-3.result.now c.extend_from_slice.new.self.items
    (c.in_ok-manifest.ensures.value ∙ ap body_bytes (c.deref.ensures.value ∙ c.self.view_is))
    c.deref-2.ensures.value
    (c.deref-3.ensures.value ∙ c.in_ok-signature.ensures)
    c.in_ok-extend_from_slice.ensures.items

pub returns-in_err-check_some : goal.returns-in_err-check_some
returns-in_err-check_some g c = grind (arith, common_steps)

pub returns-in_err-check_opt_rand : goal.returns-in_err-check_opt_rand
returns-in_err-check_opt_rand g c = grind (arith, common_steps)

pub returns-in_err-manifest : goal.returns-in_err-manifest
returns-in_err-manifest g c = grind (arith, common_steps)

pub sign_body-requires : goal.sign_body-requires
sign_body-requires g c = grind (arith, common_steps)

pub returns-in_err-signature : goal.returns-in_err-signature
returns-in_err-signature g c = grind (arith, common_steps)
