use Rattle.std.proofs.Common.{◌∙◌, sym}
use Rattle.slh_dsa_c.proofs.Finding.{name_of_name}
use Rattle.slh_dsa_c.proofs.manifests.slh_manifest_find.Goals as goal

pub returns-clause-name : goal.returns-clause-name
returns-clause-name c =
    λ zero. name_of_name c.args.manifest.now c.args.name.now c.tell.new.place c.entry_named.result c.entry_named.ensures c.tell.ensures.value (sym c.tell.ensures.status ∙ zero)
