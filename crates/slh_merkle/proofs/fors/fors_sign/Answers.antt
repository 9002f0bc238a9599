use Rattle.std.proofs.Common.{arith, ◌≡◌, ◌≤◌, ◌∙◌, length}
use Rattle.std.proofs.lemmas.Grind.{common_steps}
use Rattle.std.proofs.lemmas.List.{length-take-le}
use Rattle.slh_merkle.proofs.fors.fors_sign.Goals as goal

pub base_2b-requires : goal.base_2b-requires
base_2b-requires g c = grind (arith, common_steps)

pub open_all-requires-clause-count : goal.open_all-requires-clause-count
open_all-requires-clause-count g c = c.base_2b.auto.out ∙ length-take-le c.K.result _ (let few : c.K.result ≤ 64 = omega (arith, c.K.ensures, c.forest_sizes.ensures.trees_high) in few) ∙ c.K.ensures

pub open_all-requires-clause-below : goal.open_all-requires-clause-below
open_all-requires-clause-below g c = rw c.A.ensures at c.base_2b.ensures.below

pub open_all-requires-clause-room : goal.open_all-requires-clause-room
open_all-requires-clause-room g c = c.requires.room

pub returns : goal.returns
returns g c =
    let count : length c.base_2b.new.out ≡ g.P.ForsSizes.K = c.base_2b.auto.out ∙ length-take-le c.K.result _ (let few : c.K.result ≤ 64 = omega (arith, c.K.ensures, c.forest_sizes.ensures.trees_high) in few) ∙ c.K.ensures in
    let made = rw (c.A.ensures, ← c.base_2b.auto.out, count) at c.base_2b.ensures.value in
    record {
      value = rw made at c.open_all.ensures.value;
      cost = c.open_all.ensures.cost;
    }
