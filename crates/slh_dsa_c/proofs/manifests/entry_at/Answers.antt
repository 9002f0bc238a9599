use Rattle.std.proofs.Common.{◌≡◌, Some, arith, sym, ◌∙◌, ap}
use Rattle.std.specs.List.{slice_get}
use Rattle.std.proofs.lemmas.Option.{slice_get_within}
use Rattle.slh_manifest.specs.Checking.{count_of, entries_of}
use Rattle.slh_manifest.specs.Entries.{entry_copied}
use Rattle.slh_manifest.proofs.Places.{length-entries_in}
use Rattle.std.proofs.Common.{drop}
use Rattle.slh_dsa_c.proofs.manifests.entry_at.Goals as goal

pub place_of-requires-clause-inside : goal.place_of-requires-clause-inside
place_of-requires-clause-inside c =
    let m = c.args.manifest.now in
    let there : slice_get (entries_of m) c.args.number ≡ Some (entry_copied c.in-Some-entry.entry) = ap (λ es. slice_get es c.args.number) (sym c.in-Some.ensures.entries) ∙ sym c.in-Some-entry.ensures in
    let within = slice_get_within (entries_of m) c.args.number _ there in
    omega (arith, within, length-entries_in (count_of m) (drop 4 m))
