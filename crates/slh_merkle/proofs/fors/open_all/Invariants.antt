use Rattle.std.proofs.Common.{◌≡◌, ◌+◌, ◌*◌, take}
use Rattle.slh_core.specs.Bytes.{joined}
use Rattle.slh_core.specs.Costs.{fors_sign_cost}
use Rattle.slh_merkle.specs.Fors.{fors_opened}
use Rattle.slh_merkle.proofs.fors.open_all.Given as goal

-- the trees so far
abbrev pub invariant-loop-i : goal.invariant-loop-i
invariant-loop-i g l =
    let K = g.P.HashSuite.keyed_suite l.keyed in
    let a = g.P.ForsSizes.A in
    record {
      values : take (l.i * l.size) l.out
          ≡ joined (fors_opened K l.sk_seed l.adrs.tree_adrs_low l.adrs.key_pair_adrs a l.digits) l.i;
      cost : l.steps ≡ l.initial.steps + fors_sign_cost l.i a;
    }
