use Rattle.std.proofs.Common.{◌≡◌, ◌+◌, ◌*◌, take}
use Rattle.slh_core.specs.Bytes.{joined}
use Rattle.slh_core.specs.Costs.{wots_pk_cost}
use Rattle.slh_core.specs.Wots.{wots_pk}
use Rattle.slh_merkle.proofs.xmss.HashTreeLeaves.write_rest.Given as goal

-- the leaves so far, and their steps
abbrev pub invariant-loop-k : goal.invariant-loop-k
invariant-loop-k g l =
    let K = g.P.HashSuite.keyed_suite l.keyed in
    let leaf = wots_pk K l.sk_seed l.self.layer_adrs l.self.tree_adrs_low in
    record {
      leaves : take (l.k * l.n) l.out ≡ joined (λ k. leaf (l.first + k)) l.k;
      cost : l.steps ≡ l.initial.steps + l.k * wots_pk_cost g.P.WotsSizes.WOTS_SIG_LEN;
    }
