use Rattle.std.proofs.Common.{◌≡◌, ◌*◌, ◌^◌, ◌<◌, take}
use Rattle.slh_core.specs.Bytes.{number_of}
use Rattle.slh_trees.proofs.digest.number.Given as goal

-- the number of the bytes so far
abbrev pub invariant-loop-byte : goal.invariant-loop-byte
invariant-loop-byte l = record {
  value : l.total ≡ number_of (take l.byte-index l.bytes);
  small : l.total < 2 ^ (8 * l.byte-index);
}
