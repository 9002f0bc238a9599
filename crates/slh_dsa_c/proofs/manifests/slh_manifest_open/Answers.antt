use Rattle.slh_sets.specs.Sets.{set_numbered}
use Rattle.slh_dsa_c.proofs.Finding.{never_zero, opened_in}
use Rattle.slh_dsa_c.proofs.manifests.slh_manifest_open.Goals as goal

pub returns-in-Ok-clause-entries : goal.returns-in-Ok-clause-entries
returns-in-Ok-clause-entries c = λ _. (opened_in (set_numbered c.args.set) c.args.public.now c.args.manifest.now c.in-Ok.count c.in-Ok.ensures).0

pub returns-in-Ok-clause-stand : goal.returns-in-Ok-clause-stand
returns-in-Ok-clause-stand c = λ _. (opened_in (set_numbered c.args.set) c.args.public.now c.args.manifest.now c.in-Ok.count c.in-Ok.ensures).1

pub returns-in-Err-clause-entries : goal.returns-in-Err-clause-entries
returns-in-Err-clause-entries c = λ zero. absurd (never_zero (set_numbered c.args.set) c.args.public.now c.args.manifest.now c.in-Err.number c.in-Err.ensures zero)

pub returns-in-Err-clause-stand : goal.returns-in-Err-clause-stand
returns-in-Err-clause-stand c = λ zero. absurd (never_zero (set_numbered c.args.set) c.args.public.now c.args.manifest.now c.in-Err.number c.in-Err.ensures zero)
