use Rattle.std.proofs.Common.{◌≡◌, ◌++◌, ◌*◌, take}
use Rattle.sha256_lanes.specs.Sha256.{sha256}
use Rattle.slh_core.specs.Bytes.{big_endian, joined}
use Rattle.slh_hash.proofs.small_l1.small_mgf1.Given as goal

-- the first i hashes stand at the front of the blocks
abbrev pub invariant-loop-i : goal.invariant-loop-i
invariant-loop-i l = take (l.i * 32) l.blocks ≡ joined (λ i. sha256 (l.seed ++ big_endian i 4)) l.i
