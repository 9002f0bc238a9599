use Rattle.std.proofs.Common.{[], None}
use Rattle.slh_dsa.specs.Calls.{hash_verify_error}
use Rattle.slh_bytes.proofs.Answered.{absorbed, refused_before, refused_within}
use Rattle.slh_bytes.proofs.Accepting.{ended, no_key, not_begun, not_ended}
use Rattle.slh_bytes.proofs.verifying.ClaimOnSet.on.Goals as goal
use Rattle.slh_jobs.specs.Errors.{error_of}
use Rattle.slh_bytes.specs.Terms.{Terms}
use Rattle.slh_core.specs.Refusals.{RefusedExactly}

pub returns-in_err-key : goal.returns-in_err-key
returns-in_err-key g c =
    let s = c.args.self in
    let e = c.in_err-key.field-0.0 in
    refused_before _ _ _ c.from_residual.result (error_of e)
    (no_key g.P.ForsSizes.scheme s.mode s.key.now s.context.now s.signature.now e c.in_err-key.ensures.refusal) c.from_residual.ensures.1

pub returns-in_err-verifier : goal.returns-in_err-verifier
returns-in_err-verifier g c =
    let s = c.args.self in
    let e = c.in_err-verifier.field-0.0 in
    refused_before _ _ _ c.from_residual-in_err-verifier.result (error_of e)
    (not_begun g.P.ForsSizes.scheme s.mode s.key.now s.context.now s.signature.now e c.in_ok-key.ensures.refusal c.in_err-verifier.ensures.refusal)
    c.from_residual-in_err-verifier.ensures.1

pub returns-in_err-absorb_all : goal.returns-in_err-absorb_all
returns-in_err-absorb_all g c =
    let s = c.args.self in
    let terms : Terms = record { mode = s.mode; key = c.in_ok-key.key; context = s.context.now; opt_rand = None; signature = s.signature.now; rand = [] } in
    refused_within _ _ _ terms _ _ _ c.from_residual-in_err-absorb_all.result c.in_err-absorb_all.field-0.0 c.in_ok-verifier.ensures.empty
    (not_ended g.P.ForsSizes.scheme s.mode s.key.now s.context.now s.signature.now c.in_ok-key.ensures.refusal c.in_ok-verifier.ensures.refusal)
    c.in_err-absorb_all.ensures c.from_residual-in_err-absorb_all.ensures.1

pub returns : goal.returns
returns g c =
    let s = c.args.self in
    let terms : Terms = record { mode = s.mode; key = c.in_ok-key.key; context = s.context.now; opt_rand = None; signature = s.signature.now; rand = [] } in
    let (all, whole, goes) = absorbed _ _ _ _ _ _ c.in_ok-absorb_all.ensures in
    let (stood, short) = goes terms c.in_ok-verifier.ensures.empty in
    let exact : RefusedExactly c.finish.result (hash_verify_error g.P.ForsSizes.scheme s.mode c.in_ok-key.key s.context.now all s.signature.now) =
    c.finish.ensures.value s.mode c.in_ok-key.key s.context.now s.signature.now all stood in (
      all,
      whole,
      ended g.P.ForsSizes.scheme s.mode s.key.now s.context.now s.signature.now all c.finish.result c.is_ok.result
          c.in_ok-key.ensures.refusal c.in_ok-verifier.ensures.refusal short (rw c.in_ok-key.ensures.value at exact) c.is_ok.ensures.value,
    )
