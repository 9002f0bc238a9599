use Rattle.std.proofs.Common.{List, ℕ, [], inl, ap, ◌∙◌}
use Rattle.std.specs.Option.{option_copied}
use Rattle.slh_frames.specs.Frames.{mode_frame}
use Rattle.slh_bytes.proofs.Answered.{absorbed, refused_before, refused_within}
use Rattle.slh_bytes.proofs.Handing.{if_ok}
use Rattle.slh_bytes.proofs.Signed.{digest_ended, long_digest, no_digest, no_digest_key}
use Rattle.slh_bytes.proofs.signing.ByDigestOnSet.on.Goals as goal
use Rattle.slh_jobs.specs.Errors.{error_of}
use Rattle.slh_bytes.specs.Terms.{Terms}
use Rattle.slh_trees.specs.Signing.{signature_of}

pub returns-in_err-key : goal.returns-in_err-key
returns-in_err-key g c =
    let s = c.args.self in
    let e = c.in_err-key.field-0.0 in
    inl (refused_before _ _ _ c.from_residual.result (error_of e)
    (no_digest_key g.P.ForsSizes.scheme s.key.now s.context.now (option_copied s.opt_rand) s.mode e c.in_err-key.ensures.refusal)
    c.from_residual.ensures.1)

pub returns-in_err-signer : goal.returns-in_err-signer
returns-in_err-signer g c =
    let s = c.args.self in
    let e = c.in_err-signer.field-0.0 in
    inl (refused_before _ _ _ c.from_residual-in_err-signer.result (error_of e)
    (no_digest g.P.ForsSizes.scheme s.key.now s.context.now (option_copied s.opt_rand) s.mode e c.in_ok-key.ensures.refusal
    c.in_err-signer.ensures.refusal)
    c.from_residual-in_err-signer.ensures.1)

pub returns-in_err-absorb_all : goal.returns-in_err-absorb_all
returns-in_err-absorb_all g c =
    let s = c.args.self in
    let opt_rand = option_copied s.opt_rand in
    let terms : Terms = record { mode = s.mode; key = c.in_ok-key.key; context = s.context.now; opt_rand = opt_rand; signature = []; rand = [] } in
    inl (refused_within _ _ _ terms _ _ _ c.from_residual-in_err-absorb_all.result c.in_err-absorb_all.field-0.0 c.in_ok-signer.ensures.empty
    (long_digest g.P.ForsSizes.scheme s.key.now s.context.now opt_rand s.mode c.in_ok-key.ensures.refusal c.in_ok-signer.ensures.refusal)
    c.in_err-absorb_all.ensures c.from_residual-in_err-absorb_all.ensures.1)

pub returns : goal.returns
returns g c =
    let Z = g.P.ForsSizes.scheme in
    let s = c.args.self in
    let opt_rand = option_copied s.opt_rand in
    let terms : Terms = record { mode = s.mode; key = c.in_ok-key.key; context = s.context.now; opt_rand = opt_rand; signature = []; rand = [] } in
    let (all, whole, goes) = absorbed _ _ _ _ _ _ c.in_ok-absorb_all.ensures in
    let (stood, short) = goes terms c.in_ok-signer.ensures.empty in
    digest_ended Z s.key.now s.context.now opt_rand s.mode _ _ all c.end_digest.result whole c.in_ok-key.ensures.refusal c.in_ok-signer.ensures.refusal short
    (if_ok c.end_digest.result (λ signature told. told s.mode c.in_ok-key.key opt_rand s.context.now all stood
    ∙ ap (λ (k : List ℕ). signature_of Z k opt_rand (mode_frame s.mode s.context.now all)) c.in_ok-key.ensures.value) c.end_digest.ensures.value)
    c.end_digest.ensures.memory
