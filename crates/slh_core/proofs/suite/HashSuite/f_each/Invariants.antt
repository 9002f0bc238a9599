use Rattle.std.proofs.Common.{◌≡◌, ◌+◌, ◌*◌, take, drop, slice_index}
use Rattle.slh_core.specs.Bytes.{joined, part}
use Rattle.slh_core.proofs.suite.HashSuite.f_each.Given as goal

-- the hashes so far, the values that are left, and the steps
abbrev pub invariant-loop-k : goal.invariant-loop-k
invariant-loop-k g l =
    let K = g.Self.HashSuite.keyed_suite l.keyed in
    let n = g.Self.N.ArraySize.USIZE in
    record {
      hashes : take (l.k * l.n) l.values ≡ joined (λ i. K.suite.f K.seed (g.A.RowAddress.numbered l.adrs (slice_index l.numbers i)) (part n l.initial.values i)) l.k;
      rest : drop (l.k * l.n) l.values ≡ drop (l.k * l.n) l.initial.values;
      cost : l.steps ≡ l.initial.steps + l.k;
    }
