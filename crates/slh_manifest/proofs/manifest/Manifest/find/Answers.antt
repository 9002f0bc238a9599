use Rattle.std.proofs.lemmas.Grind.{common_steps}
use Rattle.std.proofs.Common.{rules, arith}
use Rattle.std.proofs.lemmas.Iterator.Consumers.{YieldsList-from_first}
use Rattle.std.proofs.lemmas.Iterator.Search.{find_from_yields_List}
use Rattle.std.specs.Str.{bytes_eq}
use Rattle.slh_manifest.specs.Entries.{entry_copied}
use Rattle.slh_manifest.proofs.manifest.Manifest.find.Goals as goal

pub returns : goal.returns
returns c =
    find_from_yields_List (λ entry. bytes_eq entry.name c.args.name.now) _ _ c.find.result c.find.ensures.ran
    (YieldsList-from_first entry_copied (λ entries. entries) c.args.self.now c.iter.ensures) (λ x b q k. search rules)

pub find-requires : goal.find-requires
find-requires c = grind (arith, common_steps)
