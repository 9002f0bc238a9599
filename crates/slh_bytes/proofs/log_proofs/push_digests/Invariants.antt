use Rattle.std.proofs.Common.{◌≡◌, ◌++◌, take}
use Rattle.std.specs.List.{flat_map}
use Rattle.slh_bytes.specs.LogProofs.{digest_line}
use Rattle.slh_bytes.proofs.log_proofs.push_digests.Given as goal

-- the lines so far
abbrev pub invariant-loop-digest : goal.invariant-loop-digest
invariant-loop-digest l =
    l.text.items ≡ l.initial.text.items ++ flat_map digest_line (take l.digest-index l.digests)
