use Rattle.sha256_lanes.proofs.Vectors.{lane-chosen}
use Rattle.sha256_lanes.proofs.lanes.chosen.Goals as goal

pub returns : goal.returns
returns c j h = lane-chosen c.args.digits.now c.args.q c.args.new c.args.old j c.told-digits c.fits-new.0 c.fits-old.0 h
