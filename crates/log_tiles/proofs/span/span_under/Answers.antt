use Rattle.log_tiles.proofs.Spans.{shifted, span_fits, span_start}
use Rattle.log_tiles.proofs.span.span_under.Goals as goal

pub returns-clause-start : goal.returns-clause-start
returns-clause-start c = rw (shifted c.args.above c.requires) (span_start c.args.index c.args.above c.requires)

pub returns-clause-fits : goal.returns-clause-fits
returns-clause-fits c = rw (shifted c.args.above c.requires) (span_fits c.args.index c.args.above c.requires)
