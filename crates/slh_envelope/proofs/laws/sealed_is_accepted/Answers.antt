use Rattle.std.proofs.Common.{[], ap, arith}
use Rattle.dsse.specs.Encoding.{pae}
use Rattle.slh_envelope.proofs.Accepted.{sealed_is_accepted}
use Rattle.slh_frames.specs.declared.frame.Mode.TheVariants.{Pure}
use Rattle.slh_envelope.proofs.laws.sealed_is_accepted.Goals as goal

pub returns : goal.returns
returns g c = λ key opt_rand payload_type payload true_key size short.
    sealed_is_accepted g.P.ForsSizes.scheme g.P.N.ArraySize.USIZE key payload_type payload opt_rand (ap (λ z. z.n) g.met.P.ForsSizes.scheme_is)
    (c.signed_is_accepted.ensures Pure key [] (pae payload_type payload) opt_rand true_key size (omega arith) short)
