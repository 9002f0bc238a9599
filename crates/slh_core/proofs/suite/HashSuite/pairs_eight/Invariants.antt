use Rattle.std.proofs.Common.{◌≡◌, ◌+◌, ◌*◌, ◌<◌, ◌≤◌, length, take}
use Rattle.slh_core.specs.Bytes.{joined}
use Rattle.slh_core.specs.Costs.{wots_pk_cost}
use Rattle.slh_core.specs.Wots.{value_or, wots_pk}
use Rattle.slh_core.proofs.suite.HashSuite.pairs_eight.Given as goal

-- the public keys so far, the values once the signer was met, and the steps
abbrev pub invariant-loop-k : goal.invariant-loop-k
invariant-loop-k g l =
    let K = g.Self.HashSuite.keyed_suite l.keyed in
    let a = l.adrs in
    let key = wots_pk K l.sk_seed a.layer_adrs a.tree_adrs_low in
    let len = length l.digits in
    record {
      keys : take (l.k * l.n) l.out ≡ joined (λ k. key (a.key_pair_adrs + k)) l.k;
      before : l.k ≤ l.signer → l.sig ≡ l.fn.sig;
      after : l.signer < l.k
          → l.sig ≡ joined (value_or K l.sk_seed a.layer_adrs a.tree_adrs_low (a.key_pair_adrs + l.signer) l.fn.sig l.digits) len;
      cost : l.steps ≡ l.initial.steps + l.k * wots_pk_cost len;
    }
