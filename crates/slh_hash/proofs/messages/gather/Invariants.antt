use Rattle.std.proofs.Common.{◌≡◌, ◌+◌, ◌*◌, take}
use Rattle.slh_core.specs.Bytes.{joined, part}
use Rattle.slh_hash.proofs.messages.gather.Given as goal

abbrev pub invariant-loop-c : goal.invariant-loop-c
invariant-loop-c l = take (l.c * l.n) l.out ≡ joined (λ c. part l.n l.ends (8 * c + l.k)) l.c
