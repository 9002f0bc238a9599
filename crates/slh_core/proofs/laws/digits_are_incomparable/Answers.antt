use Rattle.std.proofs.Common.{sym}
use Rattle.slh_core.proofs.Incomparable.{digit_below}
use Rattle.slh_core.proofs.laws.digits_are_incomparable.Goals as goal

pub returns : goal.returns
returns c = λ n x y small lx ly bx by differ. (
  digit_below n x y small lx ly bx by differ,
  digit_below n y x small ly lx by bx (λ same. differ (sym same)),
)
