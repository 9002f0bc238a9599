use Rattle.std.proofs.Common.{arith, refl}
use Rattle.line_serve.specs.declared.digits.TheConstants.{VALUES}
use Rattle.line_serve.proofs.DigitPairs.{value_in_table}
use Rattle.line_serve.proofs.digits.digit_value.Goals as goal

pub returns : goal.returns
returns c = rw c.from.ensures (value_in_table VALUES c.args.c refl (omega arith))
