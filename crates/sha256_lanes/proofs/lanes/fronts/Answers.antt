use Rattle.sha256_lanes.proofs.Words.{fronts_meet}
use Rattle.sha256_lanes.proofs.lanes.fronts.Goals as goal

pub returns : goal.returns
returns g c j h =
    rw (c.sum.ensures j h, c.and.ensures j h, c.splat.ensures j h, c.shifted.ensures j h)
    (fronts_meet _ _ (g.met.W.Word.lane_lt c.args.x j) (g.met.W.Word.lane_lt c.args.y j))
