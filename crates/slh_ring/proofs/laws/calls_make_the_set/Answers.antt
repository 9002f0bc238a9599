use Rattle.slh_ring.proofs.Calls.{made_members, made_ring}
use Rattle.slh_ring.proofs.laws.calls_make_the_set.Goals as goal

pub returns : goal.returns
returns c = record {
  ring = made_ring;
  members = made_members;
}
