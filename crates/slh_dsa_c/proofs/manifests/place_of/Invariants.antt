use Rattle.std.proofs.Common.{◌≡◌, ◌+◌, ◌-◌, drop}
use Rattle.slh_dsa_c.specs.Manifests.{entries_size, entry_place}
use Rattle.slh_manifest.specs.Checking.{count_of}
use Rattle.slh_manifest.specs.Entries.{Stand}
use Rattle.slh_dsa_c.proofs.manifests.place_of.Given as goal

-- the entries that are left stand at the place
abbrev pub invariant-each_entry : goal.invariant-each_entry
invariant-each_entry l = record {
  stand : Stand (count_of l.manifest - l.counter) (drop l.at l.manifest);
  place : entry_place l.manifest l.number ≡ l.at + entries_size (l.number - l.counter) (drop l.at l.manifest);
}
