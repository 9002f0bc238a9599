use Rattle.std.proofs.Common.{◌≡◌, ℕ, ◌≤◌, List, ◌∷◌, ◌++◌, length}
use Rattle.slh_bytes.proofs.LogReading.{Left}
use Rattle.slh_bytes.specs.LogProofs.{AreDigests, digest_lines}
use Rattle.slh_bytes.proofs.log_proofs.read_digests.Given as goal

-- what is left, where the bytes are the lines of digests
abbrev pub invariant-each_line : goal.invariant-each_line
invariant-each_line l = record {
  few : length l.digests.items ≤ 64;
  left : (digests : List (List ℕ)) (rest : List ℕ) → AreDigests digests → l.bytes ≡ digest_lines digests ++ 10 ∷ rest → Left digests rest l.digests.items l.rest;
}

abbrev pub decreases-each_line : goal.decreases-each_line
decreases-each_line l = length l.rest
