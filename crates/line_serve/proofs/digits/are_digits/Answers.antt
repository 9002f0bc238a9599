use Rattle.line_serve.proofs.DigitLanes.{none_over}
use Rattle.line_serve.proofs.digits.are_digits.Goals as goal

pub returns : goal.returns
returns c = λ is j low. none_over c.args.values j c.fits-values.0 c.fits-values.1 low is
