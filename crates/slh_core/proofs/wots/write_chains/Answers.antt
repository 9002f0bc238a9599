use Rattle.std.proofs.Common.{◌≡◌, ap, arith, length, refl, take}
use Rattle.std.proofs.lemmas.Grind.{common_steps}
use Rattle.std.proofs.lemmas.List.{take_all}
use Rattle.slh_core.specs.Parameters.{chain_count}
use Rattle.slh_core.specs.Wots.{chain_values}
use Rattle.slh_core.proofs.Joins.{joined_more, whole_joined}
use Rattle.slh_core.proofs.wots.write_chains.Goals as goal

pub loop-c-preserved : goal.loop-c-preserved
loop-c-preserved g c = record {
  values = rw (c.put_part.ensures.front, c.loop-c.invariant.values, joined_more, c.as_slice.ensures.value, c.own_chain-value.ensures.value, c.from.ensures) refl;
  cost = grind (arith, common_steps);
}

pub returns-clause-value : goal.returns-clause-value
unfolding chain_values
returns-clause-value g c =
    let K = g.P.HashSuite.keyed_suite c.args.keyed.now in
    let size : K.n ≡ g.P.N.ArraySize.USIZE = ap (λ k. k.n) (g.met.P.HashSuite.keyed_suite_is c.args.keyed.now) in
    let count : chain_count K.n ≡ length c.args.digits.now = rw size (omega (arith, c.requires.count)) in
    rw count
    (whole_joined _ c.USIZE-n.result (length c.args.digits.now) c.loop-c.c c.loop-c.out (omega arith) (rw c.USIZE-n.ensures (omega (arith, c.requires.room))) c.loop-c.invariant.values)

pub returns-clause-cost : goal.returns-clause-cost
returns-clause-cost g c =
    let last : c.loop-c.c ≡ length c.args.digits.now = omega arith in
    let all : take c.loop-c.c c.args.digits.now ≡ c.args.digits.now = take_all _ _ (omega arith) in
    rw (all, last) at c.loop-c.invariant.cost
