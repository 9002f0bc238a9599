use Rattle.sha256_lanes.proofs.Words.{halves_meet}
use Rattle.sha256_lanes.proofs.lanes.middle.Goals as goal

pub returns : goal.returns
returns g c j h =
    rw (c.rotated.ensures j h, c.sum.ensures j h, c.and.ensures j h, c.and-2.ensures j h, c.splat.ensures j h, c.splat-2.ensures j h)
    (halves_meet _ _ (g.met.W.Word.lane_lt c.args.x j) (g.met.W.Word.lane_lt c.args.y j))
