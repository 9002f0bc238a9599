use Rattle.std.proofs.Common.{arith}
use Rattle.slh_core.specs.Parameters.{scheme_of}
use Rattle.slh_frames.specs.declared.frame.Mode.TheVariants.{Pure}
use Rattle.slh_manifest.specs.Manifest.{manifest_context}
use Rattle.slh_manifest.proofs.Accepted.{SignatureHasSize, accepted, signature_len}
use Rattle.slh_manifest.proofs.laws.sealed_is_accepted.Goals as goal

pub returns : goal.returns
returns g c = λ key opt_rand entries files.
    let Z = scheme_of g.P.HashSuite.suite g.P.N.ArraySize.USIZE g.P.XmssSizes.H_PRIME g.P.HypertreeSizes.D g.P.ForsSizes.A g.P.ForsSizes.K in
    let law = g.met.P.HashSuite.lengths g.met.P.WotsSizes.valid_wots.n_high in
    let sized : SignatureHasSize Z = λ k r m. signature_len Z k r m law in
    accepted g.P.ForsSizes.scheme g.P.N.ArraySize.USIZE key opt_rand entries files
    (λ k r m true_key size short. c.signed_is_accepted.ensures Pure k manifest_context m r true_key size (omega arith) short)
    (rw g.met.P.ForsSizes.scheme_is sized)
