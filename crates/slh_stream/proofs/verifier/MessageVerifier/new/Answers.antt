use Rattle.std.proofs.Common.{◌≡◌, ℕ, List, ap, ◌∙◌, take}
use Rattle.slh_core.specs.Parameters.{Scheme}
use Rattle.slh_stream.proofs.Begun.{begun}
use Rattle.slh_stream.proofs.verifier.MessageVerifier.new.Goals as goal

pub returns-clause-empty : goal.returns-clause-empty
returns-clause-empty g c =
    let size : g.P.ForsSizes.scheme.n ≡ g.P.N.ArraySize.USIZE = ap (λ (Z : Scheme). Z.n) g.met.P.ForsSizes.scheme_is in
    begun g.P.N.ArraySize.USIZE (g.P.MessageSuite.digests c.begin_front-digest.result) c.new.result _ _ c.args.mode c.args.key.now c.args.ctx.now c.args.sig.now c.exact-sig.result c.from_view-rand.result
    c.new.ensures.mode c.new.ensures.empty c.new.ensures.nothing
    (c.copy-pk_seed.ensures ∙ c.pk_seed.ensures) (c.copy-pk_root.ensures ∙ c.pk_root.ensures) c.exact-sig.ensures c.in_ok-check_context.ensures.fits
    (rw size at (c.from_view-rand.ensures ∙ c.randomizer.ensures ∙ ap (λ (v : List ℕ). take g.P.ForsSizes.scheme.n v) c.exact-sig.ensures))
    c.begin_front-digest.ensures.begun
