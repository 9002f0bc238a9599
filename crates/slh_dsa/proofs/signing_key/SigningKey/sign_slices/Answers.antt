use Rattle.std.proofs.Common.{◌≡◌, ◌++◌, ◌∙◌, List, ℕ, ap, append_assoc}
use Rattle.slh_core.specs.Parameters.{Scheme}
use Rattle.slh_dsa.proofs.KeyParts.{signature_by_parts}
use Rattle.slh_dsa.proofs.signing_key.SigningKey.sign_slices.Goals as goal

pub returns-clause-value : goal.returns-clause-value
returns-clause-value g c = λ given is_given.
    let size : g.P.ForsSizes.scheme.n ≡ g.P.N.ArraySize.USIZE = ap (λ (Z : Scheme). Z.n) g.met.P.ForsSizes.scheme_is in
    let s = c.self.inside in
    let p = c.public.inside in
    let front : List ℕ = s.sk_seed ++ s.sk_prf in
    let whole : s.sk_seed ++ s.sk_prf ++ p.pk_seed ++ p.pk_root ≡ c.args.self.now
    = append_assoc front p.pk_seed p.pk_root ∙ ap (λ public. front ++ public) c.public.view_is ∙ c.self.view_is in
    signature_by_parts g.P.ForsSizes.scheme g.P.N.ArraySize.USIZE _ s.sk_seed s.sk_prf p.pk_seed p.pk_root given _ c.args.head.now c.args.ctx.now c.args.msg.now _ size whole
    c.self.invariant.0 c.self.invariant.1 c.public.invariant.0 c.public.invariant.1
    is_given c.sign_message.ensures.value
