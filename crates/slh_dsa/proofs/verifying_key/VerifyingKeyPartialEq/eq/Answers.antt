use Rattle.std.proofs.Common.{sym, ◌∙◌}
use Rattle.slh_dsa.proofs.Equality.{joined_equal}
use Rattle.slh_dsa.proofs.verifying_key.VerifyingKeyPartialEq.eq.Goals as goal

pub returns : goal.returns
returns g c =
    let s = c.self.inside in
    let o = c.other.inside in
    rw (← c.self.view_is, ← c.other.view_is)
    (c.both.ensures ∙ rw (c.eq.ensures, c.eq-2.ensures) (sym (joined_equal s.pk_seed s.pk_root o.pk_seed o.pk_root (c.self.invariant.0 ∙ sym c.other.invariant.0))))
