use Rattle.std.proofs.Common.{[], None, ap, ◌∙◌}
use Rattle.slh_core.specs.Parameters.{Scheme}
use Rattle.slh_bytes.proofs.Answered.{absorbed}
use Rattle.slh_bytes.proofs.Audits.{digested_before, digested_within, ended, no_key, not_begun, not_ended, same_digest}
use Rattle.slh_bytes.proofs.auditing.digest_read.Goals as goal
use Rattle.slh_bytes.specs.Terms.{Terms}

pub returns-in_err-try_from : goal.returns-in_err-try_from
returns-in_err-try_from g c =
    let Z = g.P.ForsSizes.scheme in
    let d = c.args.claim in
    let e = c.in_err-try_from.field-0.0 in
    digested_before Z d.key.now d.context.now d.signature.now d.mode _ _ _ c.from_residual.result e
    (no_key Z d.key.now d.context.now d.signature.now e c.in_err-try_from.ensures.refusal) c.from_residual.ensures.1

pub returns-in_err-verifier : goal.returns-in_err-verifier
returns-in_err-verifier g c =
    let Z = g.P.ForsSizes.scheme in
    let d = c.args.claim in
    let e = c.in_err-verifier.field-0.0 in
    digested_before Z d.key.now d.context.now d.signature.now d.mode _ _ _ c.from_residual-in_err-verifier.result e
    (not_begun Z d.key.now d.context.now d.signature.now e c.in_ok-try_from.ensures.refusal c.in_err-verifier.ensures.refusal)
    c.from_residual-in_err-verifier.ensures.1

pub returns-in_err-absorb_all : goal.returns-in_err-absorb_all
returns-in_err-absorb_all g c =
    let Z = g.P.ForsSizes.scheme in
    let d = c.args.claim in
    let terms : Terms = record { mode = d.mode; key = c.verifying_key-public.result; context = d.context.now; opt_rand = None; signature = d.signature.now; rand = [] } in
    digested_within Z d.key.now d.context.now d.signature.now d.mode _ _ _ _ _ _ terms c.from_residual-in_err-absorb_all.result c.in_err-absorb_all.field-0.0
    c.in_ok-verifier.ensures.empty
    (not_ended Z d.key.now d.context.now d.signature.now c.in_ok-try_from.ensures.refusal c.in_ok-verifier.ensures.refusal)
    c.in_err-absorb_all.ensures c.from_residual-in_err-absorb_all.ensures.1

pub returns : goal.returns
returns g c =
    let Z = g.P.ForsSizes.scheme in
    let n = g.P.N.ArraySize.USIZE in
    let d = c.args.claim in
    let public = c.verifying_key-public.result in
    let terms : Terms = record { mode = d.mode; key = public; context = d.context.now; opt_rand = None; signature = d.signature.now; rand = [] } in
    let (all, whole, goes) = absorbed _ _ _ _ _ _ c.in_ok-absorb_all.ensures in
    let (stood, short) = goes terms c.in_ok-verifier.ensures.empty in
    let half = rw c.in_ok-try_from.ensures.value at c.verifying_key-public.ensures in (
      all,
      whole,
      ended Z d.key.now d.context.now d.signature.now c.in_ok-try_from.ensures.refusal c.in_ok-verifier.ensures.refusal all short,
      c.finish_digest.ensures d.mode public d.context.now d.signature.now all stood
          ∙ same_digest Z n (ap (λ (Y : Scheme). Y.n) g.met.P.ForsSizes.scheme_is) d.mode d.key.now public d.context.now all d.signature.now half,
    )
