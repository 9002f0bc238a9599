use Rattle.std.proofs.Common.{◌∙◌, arith, replicate}
use Rattle.std.proofs.lemmas.Simd.{length-zip2}
use Rattle.line_serve.proofs.DigitLanes.{joined_at, plus, times}
use Rattle.line_serve.proofs.digits.joined.Goals as goal

pub returns-clause-lanes : goal.returns-clause-lanes
returns-clause-lanes c =
    let first = length-zip2 times c.args.high (replicate 16 16) (c.fits-high.0) in
    length-zip2 plus _ c.args.low (omega (arith, first, c.fits-high.0, c.fits-low.0)) ∙ first ∙ c.fits-high.0

pub returns-clause-values : goal.returns-clause-values
returns-clause-values c = λ j low h l. joined_at c.args.high c.args.low j c.fits-high.0 c.fits-low.0 low h l
