use Rattle.std.proofs.Common.{◌≡◌, ◌+◌, ◌-◌, ◌*◌, length, sum_by, take}
use Rattle.std.specs.Prelude.{slice_index}
use Rattle.slh_core.specs.Bytes.{joined}
use Rattle.slh_core.specs.ActiveChains.{AreActive}
use Rattle.slh_core.specs.Wots.{checked_chain}
use Rattle.slh_core.specs.declared.params.TheConstants.{MAX_ENDS_LEN}
use Rattle.slh_core.proofs.suite.HashSuite.finish_each.Given as goal

-- the chains under way, their values after q steps, and the steps so far
abbrev pub invariant-loop-q : goal.invariant-loop-q
invariant-loop-q g l =
    let K = g.Self.HashSuite.keyed_suite l.keyed in
    let a = l.adrs in
    record {
      active : AreActive l.digits l.q 0 l.active;
      room : length l.values ≡ MAX_ENDS_LEN;
      values : take (l.active.count * l.n) l.values
          ≡ joined (λ k. checked_chain K a.layer_adrs a.tree_adrs_low a.key_pair_adrs l.sig l.digits (slice_index l.active.numbers k) l.q) l.active.count;
      cost : l.steps ≡ l.initial.steps + sum_by (λ d. l.q - d) l.digits;
    }
