use Rattle.std.proofs.Common.{◌≡◌, ◌⊎◌, None, [], inl, inr, List, ℕ, refl, subst, sym, ◌∙◌}
use Rattle.std.specs.Prelude.{IsTrue}
use Rattle.std.specs.Option.{option_copied}
use Rattle.slh_dsa.specs.Calls.{signing_key_refusal}
use Rattle.slh_frames.specs.declared.frame.Mode.TheVariants.{Pure}
use Rattle.slh_bytes.proofs.Answered.{absorbed}
use Rattle.slh_bytes.proofs.Signed.{no_key, not_begun, not_ended, pass_ended, pass_refused, twice_refused}
use Rattle.slh_bytes.proofs.signing.ByPassesOnSet.on.Goals as goal
use Rattle.slh_bytes.specs.Answers.{IsSignedTwice}
use Rattle.slh_jobs.specs.Errors.{error_of}
use Rattle.slh_bytes.specs.Terms.{Terms}

pub returns-in_err-key : goal.returns-in_err-key
returns-in_err-key g c =
    let s = c.args.self in
    let opt_rand = option_copied s.opt_rand in
    let e = c.in_err-key.field-0.0 in
    twice_refused g.P.ForsSizes.scheme s.key.now s.context.now opt_rand _ _ _ c.from_residual.result (error_of e)
    (no_key g.P.ForsSizes.scheme s.key.now s.context.now opt_rand Pure e c.in_err-key.ensures.refusal) c.from_residual.ensures.1

pub returns-in_err-pass : goal.returns-in_err-pass
returns-in_err-pass g c =
    let s = c.args.self in
    let opt_rand = option_copied s.opt_rand in
    let e = c.in_err-pass.field-0.0 in
    twice_refused g.P.ForsSizes.scheme s.key.now s.context.now opt_rand _ _ _ c.from_residual-in_err-pass.result (error_of e)
    (not_begun g.P.ForsSizes.scheme s.key.now s.context.now opt_rand Pure e c.in_ok-key.ensures.refusal c.in_err-pass.ensures.refusal)
    c.from_residual-in_err-pass.ensures.1

pub returns-in_err-absorb_all : goal.returns-in_err-absorb_all
returns-in_err-absorb_all g c =
    let Z = g.P.ForsSizes.scheme in
    let s = c.args.self in
    let opt_rand = option_copied s.opt_rand in
    let terms : Terms = record { mode = Pure; key = c.in_ok-key.key; context = s.context.now; opt_rand = opt_rand; signature = []; rand = [] } in
    pass_refused Z s.key.now s.context.now opt_rand (IsTrue g.R.Input.may_fail ⊎ IsTrue g.S.Input.may_fail) (g.R.Input.remaining s.first) (g.S.Input.remaining s.second) _ _ _ terms _ _
    c.from_residual-in_err-absorb_all.result c.in_err-absorb_all.field-0.0 c.in_ok-pass.ensures.empty
    (not_ended Z s.key.now s.context.now opt_rand Pure c.in_ok-key.ensures.refusal c.in_ok-pass.ensures.refusal) (λ m all. inl all) (λ failed. inl failed)
    c.in_err-absorb_all.ensures c.from_residual-in_err-absorb_all.ensures.1

pub returns-in_err-absorb_all-2 : goal.returns-in_err-absorb_all-2
returns-in_err-absorb_all-2 g c =
    let Z = g.P.ForsSizes.scheme in
    let s = c.args.self in
    let opt_rand = option_copied s.opt_rand in
    let terms : Terms = record { mode = Pure; key = c.in_ok-key.key; context = s.context.now; opt_rand = opt_rand; signature = []; rand = [] } in
    let again : Terms = record { mode = Pure; key = c.in_ok-key.key; context = s.context.now; opt_rand = opt_rand; signature = []; rand = c.again-pass.result.rand } in
    let (first, whole, goes) = absorbed _ _ _ _ _ _ c.in_ok-absorb_all.ensures in
    let (stood, short) = goes terms c.in_ok-pass.ensures.empty in
    pass_refused Z s.key.now s.context.now opt_rand (IsTrue g.R.Input.may_fail ⊎ IsTrue g.S.Input.may_fail) (g.R.Input.remaining s.first) (g.S.Input.remaining s.second) _ _ _ again _ _
    c.from_residual-in_err-absorb_all-2.result c.in_err-absorb_all-2.field-0.0
    (c.again-pass.ensures.empty c.in_ok-key.key opt_rand s.context.now first stood, refl)
    (not_ended Z s.key.now s.context.now opt_rand Pure c.in_ok-key.ensures.refusal c.in_ok-pass.ensures.refusal) (λ m all. inr all) (λ failed. inr failed)
    c.in_err-absorb_all-2.ensures c.from_residual-in_err-absorb_all-2.ensures.1

pub returns : goal.returns
returns g c =
    let Z = g.P.ForsSizes.scheme in
    let s = c.args.self in
    let held = c.in_ok-key.key in
    let opt_rand = option_copied s.opt_rand in
    let left = g.R.Input.remaining s.first in
    let left_again = g.S.Input.remaining s.second in
    let terms : Terms = record { mode = Pure; key = held; context = s.context.now; opt_rand = opt_rand; signature = []; rand = [] } in
    let again : Terms = record { mode = Pure; key = held; context = s.context.now; opt_rand = opt_rand; signature = []; rand = c.again-pass.result.rand } in
    let (first, whole, goes) = absorbed _ _ _ _ _ _ c.in_ok-absorb_all.ensures in
    let (stood, short) = goes terms c.in_ok-pass.ensures.empty in
    let (second, whole_again, goes_again) = absorbed _ _ _ _ _ _ c.in_ok-absorb_all-2.ensures in
    let (stood_again, short_again) = goes_again again (c.again-pass.ensures.empty held opt_rand s.context.now first stood, refl) in
    let key_is = c.in_ok-key.ensures.value in
    let fits : signing_key_refusal Z held ≡ None = subst (λ (k : List ℕ). signing_key_refusal Z k ≡ None) (sym key_is) c.in_ok-key.ensures.refusal in
    subst (λ (k : List ℕ). IsSignedTwice Z k s.context.now opt_rand (IsTrue g.R.Input.may_fail ⊎ IsTrue g.S.Input.may_fail) left left_again c.end_pass.result) key_is
    (pass_ended Z held s.context.now opt_rand _ left left_again _ _ first second c.end_pass.result whole whole_again
    (stood_again.1 ∙ c.again-pass.ensures.rand held opt_rand s.context.now first stood) stood_again.0 fits c.in_ok-pass.ensures.refusal short_again
    c.end_pass.ensures)
