use Rattle.sha256_lanes.proofs.EightWords.{IsBlock_padded}
use Rattle.sha256_lanes.proofs.lanes.block_of.Goals as goal

pub returns-clause-block : goal.returns-clause-block
returns-clause-block c = IsBlock_padded c.args.bytes.now _ c.zero_padded.ensures c.requires c.type_inv.bytes
