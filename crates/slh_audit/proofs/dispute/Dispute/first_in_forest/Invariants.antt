use Rattle.std.proofs.Common.{◌≡◌, None}
use Rattle.std.specs.List.{find}
use Rattle.slh_audit.specs.Evidence.{dispute_on, shows}
use Rattle.slh_audit.specs.Places.{in_turn, fors_tree_places}
use Rattle.slh_core.specs.Parameters.{scheme_of}
use Rattle.slh_audit.proofs.dispute.Dispute.first_in_forest.Given as goal

-- nothing so far shows
abbrev pub invariant-loop-tree : goal.invariant-loop-tree
invariant-loop-tree g l =
    let Z = scheme_of g.P.HashSuite.suite g.P.N.ArraySize.USIZE g.P.XmssSizes.H_PRIME g.P.HypertreeSizes.D g.P.ForsSizes.A g.P.ForsSizes.K in
    let D = dispute_on Z l.self in
    find (shows D) (in_turn (fors_tree_places D.a) l.tree) ≡ None
