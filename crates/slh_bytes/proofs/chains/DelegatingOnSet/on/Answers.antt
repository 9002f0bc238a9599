use Rattle.std.proofs.Common.{Option, Some, subst, sym}
use Rattle.std.specs.Option.{option_copied}
use Rattle.slh_chain.specs.Links.{delegate_refusal}
use Rattle.slh_chain.specs.declared.error.LinkError.{LinkError}
use Rattle.slh_chain.specs.declared.error.LinkError.TheVariants.{Memory}
use Rattle.slh_bytes.proofs.Keys.{both_keys}
use Rattle.slh_bytes.proofs.chains.DelegatingOnSet.on.Goals as goal
use Rattle.slh_core.specs.Refusals.{RefusedOrNoMemory}

pub returns : goal.returns
returns g c =
    let s = c.args.self in
    let refusal = delegate_refusal g.P.ForsSizes.scheme s.name.now s.depth (option_copied s.opt_rand) in (
      subst (λ (o : Option LinkError). RefusedOrNoMemory Memory c.delegate.result o)
          (sym (both_keys _ _ refusal (Some Memory) c.in-Ok.ensures.refusal c.in-Ok-try_from.ensures.refusal))
          c.delegate.ensures.refusal,
      rw (c.in-Ok.ensures.value, c.in-Ok-try_from.ensures.value) at c.delegate.ensures.link,
    )
