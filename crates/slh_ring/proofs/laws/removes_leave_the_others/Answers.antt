use Rattle.slh_ring.proofs.Removes.{members_left, ring_without}
use Rattle.slh_ring.proofs.laws.removes_leave_the_others.Goals as goal

pub returns : goal.returns
returns c = record {
  ring = ring_without;
  members = members_left;
}
