use Rattle.std.proofs.Common.{◌≡◌, ◌*◌, take, slice_index}
use Rattle.slh_core.specs.Bytes.{joined, part}
use Rattle.slh_core.proofs.active_chains.ActiveChains.write_to.Given as goal

abbrev pub invariant-loop-c : goal.invariant-loop-c
invariant-loop-c l = take (l.c * l.n) l.out ≡ joined (λ c. part l.n l.values (slice_index l.self.places c)) l.c
