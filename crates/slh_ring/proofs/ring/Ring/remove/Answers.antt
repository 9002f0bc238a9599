use Rattle.slh_ring.proofs.Removes.{kept_without}
use Rattle.slh_ring.proofs.ring.Ring.remove.Goals as goal

pub invariant_of-self : goal.invariant_of-self
invariant_of-self g c = rw c.remove.ensures.keys (kept_without c.self.inside.paths.keys c.args.path.now c.self.invariant)
