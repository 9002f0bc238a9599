use Rattle.std.proofs.Common.{refl}
use Rattle.hmac_sha256.specs.Hash.{StandsFor}
use Rattle.sha256_lanes.specs.Sha256.{fold_blocks}
use Rattle.hmac_sha256.proofs.hashing.Hash.new.Goals as goal

pub returns-clause-empty : goal.returns-clause-empty
unfolding StandsFor fold_blocks
returns-clause-empty c = record { folded = refl; rest = refl; counted = refl }
