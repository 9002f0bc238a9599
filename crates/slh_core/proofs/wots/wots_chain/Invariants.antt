use Rattle.std.proofs.Common.{◌≡◌, ◌+◌}
use Rattle.slh_core.specs.Wots.{chain}
use Rattle.slh_core.proofs.wots.wots_chain.Given as goal

-- the chain so far, and its steps
abbrev pub invariant-loop-q : goal.invariant-loop-q
invariant-loop-q g l =
    let K = g.P.HashSuite.keyed_suite l.keyed in
    let a = l.adrs in
    record {
      value : l.value ≡ chain K a.layer_adrs a.tree_adrs_low a.key_pair_adrs a.chain_adrs l.fn.x l.i l.q;
      cost : l.steps ≡ l.initial.steps + l.q;
    }
