use Rattle.std.proofs.Common.{◌≡◌, ◌+◌, ◌*◌}
use Rattle.slh_core.specs.Bytes.{joined}
use Rattle.slh_core.specs.Wots.{chain_value}
use Rattle.slh_core.proofs.wots.write_ends.Given as goal

-- every chain after the same number of steps
abbrev pub invariant-loop-q : goal.invariant-loop-q
invariant-loop-q g l =
    let K = g.P.HashSuite.keyed_suite l.keyed in
    let a = l.adrs in
    record {
      values : l.out ≡ joined (λ c. chain_value K l.sk_seed a.layer_adrs a.tree_adrs_low a.key_pair_adrs c l.q) g.P.WotsSizes.WOTS_SIG_LEN;
      cost : l.steps ≡ l.initial.steps + l.q * g.P.WotsSizes.WOTS_SIG_LEN;
    }
