use Rattle.std.proofs.Common.{◌≡◌, ◌*◌, take}
use Rattle.slh_core.specs.Bytes.{joined}
use Rattle.slh_core.specs.Suite.{seeded}
use Rattle.slh_merkle.specs.Fors.{fors_node}
use Rattle.slh_audit.proofs.dispute.Dispute.own_roots.Given as goal

-- the roots so far
abbrev pub invariant-loop-i : goal.invariant-loop-i
invariant-loop-i g l =
    let K = seeded g.P.HashSuite.suite g.P.N.ArraySize.USIZE l.self.seed in
    take (l.i * l.n) l.out ≡ joined (λ i. fors_node K l.self.sk l.self.t l.self.l g.P.ForsSizes.A i) l.i
