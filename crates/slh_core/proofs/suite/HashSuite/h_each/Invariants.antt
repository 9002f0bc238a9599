use Rattle.std.proofs.Common.{◌≡◌, ◌+◌, ◌*◌, take, slice_index}
use Rattle.slh_core.specs.Bytes.{joined, part}
use Rattle.slh_core.proofs.suite.HashSuite.h_each.Given as goal

-- the nodes so far, and their steps
abbrev pub invariant-loop-k : goal.invariant-loop-k
invariant-loop-k g l =
    let K = g.Self.HashSuite.keyed_suite l.keyed in
    let n = g.Self.N.ArraySize.USIZE in
    record {
      nodes : take (l.k * l.n) l.out
          ≡ joined (λ i. K.suite.h K.seed (g.A.RowAddress.numbered l.adrs (slice_index l.numbers i)) (part n l.pairs (2 * i)) (part n l.pairs (2 * i + 1))) l.k;
      cost : l.steps ≡ l.initial.steps + l.k;
    }
