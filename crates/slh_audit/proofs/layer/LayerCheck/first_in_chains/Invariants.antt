use Rattle.std.proofs.Common.{◌≡◌, None}
use Rattle.std.specs.List.{find}
use Rattle.slh_audit.specs.Evidence.{dispute_on, shows}
use Rattle.slh_audit.specs.Places.{in_turn, chain_places}
use Rattle.slh_core.specs.Parameters.{scheme_of}
use Rattle.slh_audit.proofs.layer.LayerCheck.first_in_chains.Given as goal

-- nothing so far shows
abbrev pub invariant-loop-chain : goal.invariant-loop-chain
invariant-loop-chain g l =
    let Z = scheme_of g.P.HashSuite.suite g.P.N.ArraySize.USIZE g.P.XmssSizes.H_PRIME g.P.HypertreeSizes.D g.P.ForsSizes.A g.P.ForsSizes.K in
    let D = dispute_on Z l.self.dispute.now in
    find (shows D) (in_turn (chain_places l.self.adrs.layer_adrs) l.chain) ≡ None
