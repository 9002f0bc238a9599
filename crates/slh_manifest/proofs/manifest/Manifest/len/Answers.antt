use Rattle.std.proofs.Common.{ap, ◌∙◌, sym, length}
use Rattle.slh_manifest.proofs.Places.{length-entries_in}
use Rattle.slh_manifest.proofs.manifest.Manifest.len.Goals as goal

pub returns-clause-value : goal.returns-clause-value
returns-clause-value c =
    sym (length-entries_in c.self.inside.count c.self.inside.entries.now) ∙ ap length c.self.view_is
