use Rattle.std.proofs.lemmas.Grind.{common_steps}
use Rattle.std.proofs.Common.{Err, IfSome, arith}
use Rattle.slh_manifest.specs.Checking.{RefusedOrFault, entries_error}
use Rattle.slh_manifest.specs.Entries.{entry_copied, numbered}
use Rattle.slh_manifest.proofs.Errors.{entry_wrong}
use Rattle.slh_manifest.proofs.Measures.{told_both, told_then}
use Rattle.slh_manifest.proofs.Tellings.{speaks}
use Rattle.slh_manifest.proofs.manifest.Manifest.check.Goals as goal

pub returns-in-Err-clause-entry : goal.returns-in-Err-clause-entry
returns-in-Err-clause-entry g c =
    let error = numbered c.each_entry.i c.in-Err.error in
    let told : IfSome (g.T.Store.files c.args.store.now) (λ files. RefusedOrFault {T = Unit {0}} (Err error) (entries_error files 0 c.args.self.now))
    = told_both _ _ _ _ _ c.each_entry.invariant.kept
    (λ files so_far wrong. entry_wrong files c.each_entry.i (entry_copied c.in-Some.entry) c.each_entry.entries c.next.new.self c.in-Err.error _ c.in-Some.ensures.steps so_far wrong)
    c.each_entry.invariant.told c.in-Err.ensures.told in
    rw c.numbered.ensures (told_then _ _ _ (λ files is. speaks files c.args.self.now (Err error) is) told)

pub each_entry-init : goal.each_entry-init
each_entry-init g c = grind (arith, common_steps)

pub returns : goal.returns
returns g c = grind (arith, common_steps)
