use Rattle.std.proofs.Common.{◌≡◌, ap, subst, sym}
use Rattle.slh_core.specs.Parameters.{Scheme}
use Rattle.slh_dsa_c.proofs.Verified.{Accepts}
use Rattle.slh_dsa_c.proofs.laws.AcceptsOnSet.on.Goals as goal

pub returns : goal.returns
returns g c =
    let Z = g.P.ForsSizes.scheme in
    let size : Z.n ≡ g.P.N.ArraySize.USIZE = ap (λ (Z : Scheme). Z.n) g.met.P.ForsSizes.scheme_is in
    subst (λ n. Accepts Z n) (sym size) c.signed_is_accepted.ensures
