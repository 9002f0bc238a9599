use Rattle.slh_ring.proofs.Firsts.{first_named, named_first}
use Rattle.slh_ring.proofs.laws.mismatches_name_the_first.Goals as goal

pub returns : goal.returns
returns c = record {
  first = first_named;
  named = named_first;
}
