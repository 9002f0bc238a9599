use Rattle.std.proofs.Common.{◌≡◌}
use Rattle.slh_audit.specs.Evidence.{checked_at, dispute_on}
use Rattle.slh_core.specs.Parameters.{scheme_of}
use Rattle.slh_audit.proofs.dispute.Dispute.checked_message.Given as goal

-- the message below the layers so far
abbrev pub invariant-loop-j : goal.invariant-loop-j
invariant-loop-j g l =
    let Z = scheme_of g.P.HashSuite.suite g.P.N.ArraySize.USIZE g.P.XmssSizes.H_PRIME g.P.HypertreeSizes.D g.P.ForsSizes.A g.P.ForsSizes.K in
    l.message ≡ checked_at (dispute_on Z l.self) l.j
