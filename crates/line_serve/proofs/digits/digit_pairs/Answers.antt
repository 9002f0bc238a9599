use Rattle.line_serve.proofs.PairLanes.{firsts, seconds}
use Rattle.line_serve.proofs.digits.digit_pairs.Goals as goal

pub returns-clause-first : goal.returns-clause-first
returns-clause-first c = λ j low. firsts c.args.digits.now j c.requires low

pub returns-clause-second : goal.returns-clause-second
returns-clause-second c = λ j low. seconds c.args.digits.now j c.requires low
