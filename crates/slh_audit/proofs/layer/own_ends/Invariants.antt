use Rattle.std.proofs.Common.{◌≡◌, ◌*◌, take}
use Rattle.slh_core.specs.Bytes.{joined}
use Rattle.slh_core.specs.Wots.{chain_value}
use Rattle.slh_audit.proofs.layer.own_ends.Given as goal

-- the ends so far
abbrev pub invariant-loop-c : goal.invariant-loop-c
invariant-loop-c g l =
    let K = g.P.HashSuite.keyed_suite l.keyed in
    let a = l.adrs in
    take (l.c * l.n) l.out ≡ joined (λ k. chain_value K l.sk_seed a.layer_adrs a.tree_adrs_low a.key_pair_adrs k 15) l.c
