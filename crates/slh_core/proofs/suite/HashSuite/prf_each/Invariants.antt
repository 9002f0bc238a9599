use Rattle.std.proofs.Common.{◌≡◌, ◌+◌, ◌*◌, take, slice_index}
use Rattle.slh_core.specs.Bytes.{joined}
use Rattle.slh_core.proofs.suite.HashSuite.prf_each.Given as goal

-- the secrets so far, and their steps
abbrev pub invariant-loop-k : goal.invariant-loop-k
invariant-loop-k g l =
    let K = g.Self.HashSuite.keyed_suite l.keyed in
    record {
      secrets : take (l.k * l.n) l.out ≡ joined (λ i. K.suite.prf K.seed (g.A.RowAddress.numbered l.adrs (slice_index l.numbers i)) l.sk_seed) l.k;
      cost : l.steps ≡ l.initial.steps + l.k;
    }
