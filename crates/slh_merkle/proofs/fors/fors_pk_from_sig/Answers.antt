use Rattle.std.proofs.Common.{arith, ◌≡◌, ◌≤◌, ◌∙◌, length, refl}
use Rattle.std.proofs.lemmas.Grind.{common_steps}
use Rattle.std.proofs.lemmas.List.{length-take-le}
use Rattle.slh_merkle.specs.Checking.{fors_pk_from_sig}
use Rattle.slh_merkle.proofs.fors.fors_pk_from_sig.Goals as goal

pub returns : goal.returns
unfolding fors_pk_from_sig
returns g c =
    let count : length c.base_2b.new.out ≡ g.P.ForsSizes.K = c.base_2b.auto.out ∙ length-take-le c.K.result _ (let few : c.K.result ≤ 64 = omega (arith, c.K.ensures, c.forest_sizes.ensures.trees_high) in few) ∙ c.K.ensures in
    let made = rw (c.A.ensures, ← c.base_2b.auto.out, count) at c.base_2b.ensures.value in
    record {
      value = rw (c.t.ensures.value, c.fors_roots.ensures, c.climb_all.ensures.value, made) refl;
      cost = omega (arith, c.t.ensures.step, c.climb_all.ensures.cost);
    }

pub base_2b-requires : goal.base_2b-requires
base_2b-requires g c = grind (arith, common_steps)

pub climb_all-requires-clause-count : goal.climb_all-requires-clause-count
climb_all-requires-clause-count g c = c.base_2b.auto.out ∙ length-take-le c.K.result _ (let few : c.K.result ≤ 64 = omega (arith, c.K.ensures, c.forest_sizes.ensures.trees_high) in few) ∙ c.K.ensures

pub climb_all-requires-clause-below : goal.climb_all-requires-clause-below
climb_all-requires-clause-below g c = rw c.A.ensures at c.base_2b.ensures.below

pub climb_all-requires-clause-whole : goal.climb_all-requires-clause-whole
climb_all-requires-clause-whole g c = c.requires.whole

pub climb_all-requires-clause-room : goal.climb_all-requires-clause-room
climb_all-requires-clause-room g c = length-take-le c.roots_len.result _ c.roots_len.ensures.small ∙ c.roots_len.ensures.value
