use Rattle.std.proofs.lemmas.Iterator.Consumers.{YieldsList-from_first, nth_from_yields_List}
use Rattle.slh_manifest.specs.Entries.{entry_copied}
use Rattle.slh_manifest.proofs.manifest.Manifest.entry.Goals as goal

pub returns : goal.returns
returns c =
    nth_from_yields_List c.nth.result _ c.args.number c.nth.ensures.ran (YieldsList-from_first entry_copied (λ entries. entries) c.args.self.now c.iter.ensures)
