use Rattle.std.proofs.Common.{◌≡◌, ◌-◌, None}
use Rattle.std.specs.List.{find}
use Rattle.slh_audit.specs.Evidence.{dispute_on, shows}
use Rattle.slh_audit.specs.Places.{in_turn, layer_places}
use Rattle.slh_core.specs.Parameters.{chain_count, scheme_of}
use Rattle.slh_audit.proofs.dispute.Dispute.first_in_layers.Given as goal

-- nothing so far shows
abbrev pub invariant-loop-down : goal.invariant-loop-down
invariant-loop-down g l =
    let Z = scheme_of g.P.HashSuite.suite g.P.N.ArraySize.USIZE g.P.XmssSizes.H_PRIME g.P.HypertreeSizes.D g.P.ForsSizes.A g.P.ForsSizes.K in
    let D = dispute_on Z l.self in
    find (shows D) (in_turn (λ down. layer_places D.hp (chain_count D.K.n) (D.d - 1 - down)) l.down) ≡ None
