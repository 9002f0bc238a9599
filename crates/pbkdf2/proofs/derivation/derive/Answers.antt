use Rattle.std.proofs.Common.{◌-◌, ◌∙◌, ap, ℕ, List}
use Rattle.pbkdf2.specs.Pbkdf2.{summed}
use Rattle.pbkdf2.proofs.Deriving.{derived}
use Rattle.pbkdf2.proofs.derivation.derive.Goals as goal

pub returns : goal.returns
returns c = λ n small.
    let password = c.args.password.now in
    let count = c.args.count in
    derived password c.args.salt.now c.summed.result count n small
    (c.summed.ensures password c.new.ensures ∙ ap (λ (t : List ℕ). summed password t (count - 1)) c.first_code-first.ensures)
