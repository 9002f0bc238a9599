use Rattle.std.proofs.Common.{◌≡◌, ℕ, List, ◌+◌, ◌*◌, ◌/◌, ◌%◌, drop, take}
use Rattle.slh_core.specs.Bytes.{joined}
use Rattle.slh_core.specs.Wots.{chain_value, value_or}
use Rattle.slh_hash.specs.Pairs.{short_suite}
use Rattle.slh_hash.proofs.pairs.run_eight.Given as goal

-- the values and the ends so far, and the steps
abbrev pub invariant-loop-c : goal.invariant-loop-c
invariant-loop-c g l =
    let K = short_suite g.N.ArraySize.USIZE l.keyed.pk_seed in
    let a = l.adrs in
    let end : ℕ → List ℕ = λ i. chain_value K l.sk_seed a.layer_adrs a.tree_adrs_low (a.key_pair_adrs + i % 8) (i / 8) 15 in
    record {
      values : take (l.c * l.n) l.sig
          ≡ joined (value_or K l.sk_seed a.layer_adrs a.tree_adrs_low (a.key_pair_adrs + l.signer) l.fn.sig l.digits) l.c;
      rest : drop (l.c * l.n) l.sig ≡ drop (l.c * l.n) l.fn.sig;
      ends : take (8 * l.c * l.n) l.ends ≡ joined end (8 * l.c);
      cost : l.steps ≡ l.initial.steps + 128 * l.c;
    }
