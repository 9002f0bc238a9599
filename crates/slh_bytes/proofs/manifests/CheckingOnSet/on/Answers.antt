use Rattle.std.proofs.Common.{◌≡◌, List, ℕ, None, subst, sym}
use Rattle.slh_dsa.specs.Calls.{verifying_key_refusal}
use Rattle.slh_bytes.specs.Manifests.{IsChecked}
use Rattle.slh_bytes.proofs.Checks.{checked_by_one}
use Rattle.slh_bytes.proofs.manifests.CheckingOnSet.on.Goals as goal

pub returns : goal.returns
returns g c =
    let Z = g.P.ForsSizes.scheme in
    let answer = c.check-answer in
    let same : c.in-Ok.key ≡ c.args.self.key.now = c.in-Ok.ensures.value in
    subst (λ (k : List ℕ). IsChecked {T = Unit {0}} Z k c.args.self.manifest.now (g.T.Store.files c.args.self.store)
    (g.T.Store.faults c.args.self.store) (g.T.Store.faults answer.new.store) answer.result) same
    (checked_by_one Z c.in-Ok.key c.args.self.manifest.now (g.T.Store.files c.args.self.store) _ _ answer.result
    (subst (λ (k : List ℕ). verifying_key_refusal Z k ≡ None) (sym same) c.in-Ok.ensures.refusal)
    answer.ensures.form answer.ensures.invalid answer.ensures.fault answer.ensures.named answer.ensures.told answer.ensures.exact)
