use Rattle.std.proofs.Common.{◌≡◌, ◌*◌, ℕ, take}
use Rattle.slh_core.specs.Bytes.{joined}
use Rattle.slh_hash.proofs.rows_256.repeat.Given as goal

abbrev pub invariant-loop-k : goal.invariant-loop-k
invariant-loop-k g l = take (l.k * l.n) l.out ≡ joined (λ (k : ℕ). l.value) l.k
