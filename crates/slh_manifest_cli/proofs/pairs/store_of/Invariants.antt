use Rattle.std.proofs.Common.{◌≡◌, ◌*◌, drop}
use Rattle.std.specs.FinMap.{empty}
use Rattle.slh_manifest.specs.Memory.{store_files}
use Rattle.slh_manifest_cli.specs.Replies.{files_with}
use Rattle.slh_manifest_cli.proofs.pairs.store_of.Given as goal

-- the pairs that are left are still to be put
abbrev pub invariant-each_pair : goal.invariant-each_pair
invariant-each_pair l = files_with empty l.pairs ≡ files_with (store_files l.store.inner) (drop (2 * l.i) l.pairs)
