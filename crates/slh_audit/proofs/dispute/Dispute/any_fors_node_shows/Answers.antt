use Rattle.std.proofs.Common.{arith}
use Rattle.std.proofs.lemmas.Bool.{false≢true}
use Rattle.slh_audit.proofs.Shown.{fors_node_there}
use Rattle.slh_audit.proofs.Shown.{told}
use Rattle.slh_audit.proofs.Meaning.{IsShown, dispute_on}
use Rattle.slh_core.specs.Parameters.{scheme_of}
use Rattle.slh_audit.proofs.dispute.Dispute.any_fors_node_shows.Goals as goal

pub returns-then-tree-K : goal.returns-then-tree-K
unfolding IsShown
returns-then-tree-K g c =
    let Z = scheme_of g.P.HashSuite.suite g.P.N.ArraySize.USIZE g.P.XmssSizes.H_PRIME g.P.HypertreeSizes.D g.P.ForsSizes.A g.P.ForsSizes.K in
    told _ _ _ ((λ t. absurd (false≢true t)), (λ shows. absurd (omega (arith, c.if-tree-K.true, (fors_node_there (dispute_on Z c.args.self.now) c.args.tree c.args.height shows).0))))

pub returns-then-height-A : goal.returns-then-height-A
unfolding IsShown
returns-then-height-A g c =
    let Z = scheme_of g.P.HashSuite.suite g.P.N.ArraySize.USIZE g.P.XmssSizes.H_PRIME g.P.HypertreeSizes.D g.P.ForsSizes.A g.P.ForsSizes.K in
    told _ _ _ ((λ t. absurd (false≢true t)), (λ shows. absurd (omega (arith, c.if-height-A.true, (fors_node_there (dispute_on Z c.args.self.now) c.args.tree c.args.height shows).1))))
