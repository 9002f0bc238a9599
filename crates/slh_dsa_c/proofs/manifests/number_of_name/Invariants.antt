use Rattle.std.proofs.Common.{◌≡◌, ◌+◌, length}
use Rattle.slh_dsa_c.specs.Manifests.{number_from}
use Rattle.slh_dsa_c.proofs.manifests.number_of_name.Given as goal

-- the entries that are left decide
abbrev pub invariant-each_entry : goal.invariant-each_entry
invariant-each_entry l = record {
  left : length l.entries + l.number ≡ length l.manifest;
  told : number_from l.name 0 l.manifest ≡ number_from l.name l.number l.entries;
}
