use Rattle.sha256_lanes.proofs.EightHashes.{tail_joined}
use Rattle.sha256_lanes.proofs.eight.tail_in.Goals as goal

pub returns : goal.returns
returns c =
    tail_joined c.args.heads.now c.args.values.now c.args.n c.args.j c.requires.small
    c.write_lane.new.out c.write_lane-2.new.out c.write_lane.ensures c.write_lane-2.ensures
