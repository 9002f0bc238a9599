use Rattle.std.proofs.Common.{◌≡◌, ◌≤◌, ◌+◌, ◌-◌, ◌*◌, [], length}
use Rattle.slh_manifest.specs.Reading.{are_entries, rest_after}
use Rattle.slh_manifest.proofs.entry.skip_entries.Given as goal

-- what is left decides
abbrev pub invariant-each_entry : goal.invariant-each_entry
invariant-each_entry l = record {
  entries : are_entries l.count [] l.bytes ≡ are_entries (l.count - l.counter) l.last l.left;
  rest : rest_after l.count l.bytes ≡ rest_after (l.count - l.counter) l.left;
  within : length l.left ≤ length l.bytes;
  short : length l.bytes ≤ length l.left + 296 * l.counter;
}
