use Rattle.std.proofs.Common.{[], refl}
use Rattle.std.specs.Prelude.{IsTrue}
use Rattle.slh_bytes.specs.Jobs.{shown_by}
use Rattle.slh_bytes.proofs.Audits.{checked, not_checked, undigested}
use Rattle.slh_bytes.proofs.auditing.CheckingOnSet.on.Goals as goal
use Rattle.slh_jobs.specs.Judgement.{answer_to}
use Rattle.slh_jobs.specs.declared.job.Job.TheVariants.{Check}

pub returns-in_err-digest_read : goal.returns-in_err-digest_read
returns-in_err-digest_read g c =
    let Z = g.P.ForsSizes.scheme in
    let d = c.args.self.claim in
    undigested Z d.key.now d.context.now d.signature.now d.mode _ _ [] shown_by (λ e. refl)
    (λ m. answer_to Z (Check d.mode d.key.now d.context.now m d.signature.now c.args.self.evidence)) c.from_residual.result c.in_err-digest_read.field-0.0
    c.in_err-digest_read.ensures c.from_residual.ensures.1

pub returns-in_err-check_evidence_for_digest : goal.returns-in_err-check_evidence_for_digest
returns-in_err-check_evidence_for_digest g c =
    let Z = g.P.ForsSizes.scheme in
    let d = c.args.self.claim in
    absurd (not_checked Z d.key.now d.context.now d.signature.now d.mode (IsTrue g.R.Input.may_fail) _ _ c.args.self.evidence _ c.in_err-check_evidence_for_digest.field-0.0
    c.in_ok-digest_read.ensures c.in_err-check_evidence_for_digest.ensures)

pub returns : goal.returns
returns g c =
    let Z = g.P.ForsSizes.scheme in
    let d = c.args.self.claim in
    checked Z d.key.now d.context.now d.signature.now d.mode (IsTrue g.R.Input.may_fail) _ _ c.args.self.evidence _ _ c.in_ok-digest_read.ensures c.in_ok-check_evidence_for_digest.ensures
