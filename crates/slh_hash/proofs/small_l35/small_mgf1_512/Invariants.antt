use Rattle.std.proofs.Common.{◌≡◌, ◌++◌, ◌*◌, take}
use Rattle.sha2.specs.Sha512.{sha512}
use Rattle.slh_core.specs.Bytes.{big_endian, joined}
use Rattle.slh_hash.proofs.small_l35.small_mgf1_512.Given as goal

-- the first i hashes stand at the front of the blocks
abbrev pub invariant-loop-i : goal.invariant-loop-i
invariant-loop-i l = take (l.i * 64) l.blocks ≡ joined (λ i. sha512 (l.seed ++ big_endian i 4)) l.i
