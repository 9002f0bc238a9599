use Rattle.std.proofs.Common.{refl}
use Rattle.slh_audit.proofs.dispute.Dispute.compare_forest.Goals as goal

pub returns : goal.returns
returns g c = record {
  made = rw (c.same.ensures, c.fors_sign_root-key.ensures.value, c.self.invariant.5, c.new-adrs.ensures, ← c.self.view_is) refl;
  key = rw (c.fors_sign_root-key.ensures.key, c.self.invariant.5, c.new-adrs.ensures, ← c.self.view_is) refl;
}
