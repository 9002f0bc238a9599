use Rattle.std.proofs.Common.{◌≡◌, ◌*◌, [], drop}
use Rattle.slh_manifest_cli.specs.Replies.{entries_with}
use Rattle.slh_manifest_cli.proofs.sealing.entries_of.Given as goal

-- the pairs that are left are still to be added
abbrev pub invariant-each_pair : goal.invariant-each_pair
invariant-each_pair l = entries_with [] l.pairs ≡ entries_with l.builder (drop (2 * l.i) l.pairs)
