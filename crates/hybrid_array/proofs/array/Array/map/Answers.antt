use Rattle.std.proofs.Common.{arith}
use Rattle.std.proofs.lemmas.Grind.{common_steps}
use Rattle.hybrid_array.proofs.array.Array.map.Goals as goal

pub returns : goal.returns
returns g c = record {
  len = grind (arith, common_steps);
  value = (c.maps_of.new.f, rw (c.of.ensures, ← c.into_vec.ensures.value) c.in_ok-maps_of.ensures.value);
}

pub returns-in_err-maps_of : goal.returns-in_err-maps_of
returns-in_err-maps_of g c = grind (arith, common_steps)
