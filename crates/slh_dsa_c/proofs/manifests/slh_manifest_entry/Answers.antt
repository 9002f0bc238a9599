use Rattle.std.proofs.Common.{◌∙◌, sym}
use Rattle.slh_dsa_c.proofs.Finding.{name_of_number}
use Rattle.slh_dsa_c.proofs.manifests.slh_manifest_entry.Goals as goal

pub returns-clause-name : goal.returns-clause-name
returns-clause-name c =
    λ zero. name_of_number c.args.manifest.now c.args.number c.tell.new.place c.entry_at.result c.entry_at.ensures c.tell.ensures.value (sym c.tell.ensures.status ∙ zero)
