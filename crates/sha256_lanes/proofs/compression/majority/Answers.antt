use Rattle.word_lanes.proofs.Words.{majority_short}
use Rattle.sha256_lanes.proofs.compression.majority.Goals as goal

pub returns : goal.returns
returns g c j h =
    let lane = g.W.Word.lane in
    rw (c.xor-3.ensures j h, c.and.ensures j h, c.xor.ensures j h, c.xor-2.ensures j h)
    (majority_short (lane c.args.x j) (lane c.args.y j) (lane c.args.z j))
