use Rattle.std.proofs.Common.{◌≡◌, ◌<◌, ◌≤◌, ℕ}
use Rattle.slh_audit.specs.Evidence.{IsOwnLayer, checked_at, dispute_on, own_at}
use Rattle.slh_core.specs.Parameters.{scheme_of}
use Rattle.slh_audit.proofs.dispute.Dispute.own_from.Given as goal

-- the layers so far, from the lowest one on, are the key's own
abbrev pub invariant-loop-layer : goal.invariant-loop-layer
invariant-loop-layer g l =
    let Z = scheme_of g.P.HashSuite.suite g.P.N.ArraySize.USIZE g.P.XmssSizes.H_PRIME g.P.HypertreeSizes.D g.P.ForsSizes.A g.P.ForsSizes.K in
    let D = dispute_on Z l.self in
    record {
      checked : l.checked ≡ checked_at D l.layer;
      own : l.own ≡ own_at D l.layer;
      low : l.lowest ≤ l.layer;
      made : (i : ℕ) → l.lowest ≤ i → i < l.layer → IsOwnLayer D i;
    }
