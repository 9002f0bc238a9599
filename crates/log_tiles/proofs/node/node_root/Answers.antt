use Rattle.std.proofs.Common.{◌∙◌}
use Rattle.log_tiles.proofs.Spans.{under_is}
use Rattle.log_tiles.proofs.node.node_root.Goals as goal

pub returns : goal.returns
returns g c = λ q inside is. c.root_of.ensures ∙ under_is g.H.TreeHash.hash c.args.height c.args.index q c.args.hashes.now inside is
