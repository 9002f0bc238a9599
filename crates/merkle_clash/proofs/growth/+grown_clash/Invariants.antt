use Rattle.merkle_clash.proofs.growth.+grown_clash.Given as goal

abbrev pub decreases-grown_clash : goal.decreases-grown_clash
decreases-grown_clash g l = l.height
