use Rattle.std.proofs.Common.{◌≡◌, ◌+◌, ◌*◌, length}
use Rattle.slh_core.specs.Bytes.{joined}
use Rattle.slh_core.specs.Wots.{chain_value}
use Rattle.slh_core.proofs.Chains.{reached}
use Rattle.slh_core.proofs.suite.HashSuite.run_chains.Given as goal

-- every chain after the same number of steps, the values at the digits that were reached, and the
-- steps
abbrev pub invariant-loop-q : goal.invariant-loop-q
invariant-loop-q g l =
    let K = g.Self.HashSuite.keyed_suite l.keyed in
    let a = l.adrs in
    let len = length l.digits in
    record {
      ends : l.ends ≡ joined (λ c. chain_value K l.sk_seed a.layer_adrs a.tree_adrs_low a.key_pair_adrs c l.q) len;
      values : l.sig ≡ joined (reached K l.sk_seed a.layer_adrs a.tree_adrs_low a.key_pair_adrs l.fn.sig l.digits (l.q + 1)) len;
      cost : l.steps ≡ l.initial.steps + l.q * len;
    }
