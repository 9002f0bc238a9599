use Rattle.std.proofs.Common.{◌≡◌, length, length-append, ◌++◌, refl, sym, ◌∙◌}
use Rattle.slh_dsa.proofs.Equality.{joined_equal}
use Rattle.slh_dsa.proofs.signing_key.SigningKeyPartialEq.eq.Goals as goal

pub returns : goal.returns
returns g c =
    let s = c.self.inside in
    let o = c.other.inside in
    let seeds : length s.sk_seed ≡ length o.sk_seed = c.self.invariant.0 ∙ sym c.other.invariant.0 in
    let secrets : length (s.sk_seed ++ s.sk_prf) ≡ length (o.sk_seed ++ o.sk_prf)
    = rw (length-append s.sk_seed s.sk_prf, length-append o.sk_seed o.sk_prf, c.self.invariant.0, c.other.invariant.0, c.self.invariant.1, c.other.invariant.1) refl in
    rw (← c.self.view_is, ← c.other.view_is)
    (c.both.ensures ∙ rw (c.both-secret.ensures, c.eq.ensures, c.eq-2.ensures, c.eq-3.ensures) (sym (joined_equal (s.sk_seed ++ s.sk_prf) s.verifying_key (o.sk_seed ++ o.sk_prf) o.verifying_key secrets ∙ rw (joined_equal s.sk_seed s.sk_prf o.sk_seed o.sk_prf seeds) refl)))
