use Rattle.sha256_lanes.proofs.Words.{choose_short}
use Rattle.sha256_lanes.proofs.compression.choose.Goals as goal

pub returns : goal.returns
returns g c j h =
    let fits = g.met.W.Word.lane_lt in
    rw (c.xor-2.ensures j h, c.and.ensures j h, c.xor.ensures j h)
    (choose_short _ _ _ (fits c.args.x j) (fits c.args.y j) (fits c.args.z j))
