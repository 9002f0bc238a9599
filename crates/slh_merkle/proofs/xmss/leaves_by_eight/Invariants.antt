use Rattle.std.proofs.Common.{◌≡◌, ◌+◌, ◌*◌, ◌<◌, ◌≤◌, length, take}
use Rattle.slh_core.specs.Bytes.{joined}
use Rattle.slh_core.specs.Costs.{wots_pk_cost}
use Rattle.slh_core.specs.Wots.{value_or, wots_pk}
use Rattle.slh_merkle.proofs.xmss.leaves_by_eight.Given as goal

-- the leaves so far, the values once the signer was met, and the steps
abbrev pub invariant-loop-g : goal.invariant-loop-g
invariant-loop-g g l =
    let K = g.P.HashSuite.keyed_suite l.keyed in
    let leaf = wots_pk K l.sk_seed l.adrs.layer_adrs l.adrs.tree_adrs_low in
    record {
      leaves : take (l.g * l.size) l.out ≡ joined (λ k. leaf (l.first + k)) (8 * l.g);
      before : 8 * l.g ≤ l.signer → l.sig ≡ l.fn.sig;
      after : l.signer < 8 * l.g
          → l.sig ≡ joined (value_or K l.sk_seed l.adrs.layer_adrs l.adrs.tree_adrs_low (l.first + l.signer) l.fn.sig l.digits) (length l.digits);
      cost : l.steps ≡ l.initial.steps + 8 * l.g * wots_pk_cost g.P.WotsSizes.WOTS_SIG_LEN;
    }
