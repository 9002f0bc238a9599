use Rattle.std.proofs.Common.{◌≡◌, ap}
use Rattle.slh_core.specs.Parameters.{Scheme}
use Rattle.slh_chain.proofs.Extended.{extended_walked}
use Rattle.slh_chain.proofs.laws.extended_is_walked.Goals as goal

pub returns : goal.returns
returns g c = λ root chain end xs is delegated.
    let Z = g.P.ForsSizes.scheme in
    let size : Z.n ≡ g.P.N.ArraySize.USIZE = ap (λ (Z : Scheme). Z.n) g.met.P.ForsSizes.scheme_is in
    extended_walked Z g.P.N.ArraySize.USIZE root chain end xs size c.chain_sizes.ensures.n_high c.signed_is_accepted.ensures is delegated
