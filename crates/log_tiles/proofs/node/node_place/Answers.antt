use Rattle.std.proofs.Common.{ap, ◌∙◌, ◌/◌, ◌%◌, arith}
use Rattle.log_tiles.proofs.Spans.{tile_of_span}
use Rattle.log_tiles.proofs.node.node_place.Goals as goal

pub returns-clause-index : goal.returns-clause-index
returns-clause-index c = ap (λ n. c.args.index / (256 / n)) c.span_under-span.ensures.len ∙ tile_of_span c.args.index (c.args.height % 8) (omega arith)
