use Rattle.word_lanes.proofs.Words.{majority_short}
use Rattle.sha512_lanes.proofs.bulk.majority.Goals as goal

pub returns : goal.returns
returns c = majority_short c.args.x c.args.y c.args.z
