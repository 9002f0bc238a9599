use Rattle.sha256_lanes.specs.Sha256.{lower_sigma0}
use Rattle.sha256_lanes.proofs.Schedule.{sum_shared}
use Rattle.sha256_lanes.proofs.compression.shared_word.Goals as goal

pub returns : goal.returns
returns g c j h = λ w0 w1 is.
    rw (c.sum-2.ensures j h, c.sum.ensures j h, c.lower_sigma1.ensures j h, is) (sum_shared _ (lower_sigma0 w1) w0)
