use Rattle.std.proofs.Common.{◌≡◌, ℕ, List, ap, ◌∙◌, subst}
use Rattle.std.specs.Prelude.{IfOk}
use Rattle.std.specs.Option.{option_copied}
use Rattle.dsse.specs.Encoding.{pae}
use Rattle.dsse.specs.Said.{Said}
use Rattle.dsse.specs.Writing.{envelope_text}
use Rattle.slh_envelope.proofs.Sealed.{sealed_is}
use Rattle.slh_envelope.proofs.sealing.seal.Goals as goal

pub returns-clause-value : goal.returns-clause-value
returns-clause-value g c =
    let text : c.deref-2.result.now ≡ pae c.args.payload_type.now c.args.payload.now =
    c.deref-2.ensures.value ∙ c.in_ok-text.ensures ∙ ap (λ (t : List ℕ). pae t c.args.payload.now) c.as_bytes.ensures.value in
    subst (λ (e : Said). IfOk c.with_signature.result (λ t. t.items ≡ envelope_text e))
    (sealed_is g.P.ForsSizes.scheme g.P.N.ArraySize.USIZE c.args.key.now c.verifying_key.result c.args.payload_type.now c.args.payload.now c.deref-2.result.now c.deref-3.result.now
    (option_copied c.args.opt_rand) (ap (λ z. z.n) g.met.P.ForsSizes.scheme_is) c.verifying_key.ensures text (c.deref-3.ensures.value ∙ c.in_ok-signature.ensures)) c.with_signature.ensures.value
