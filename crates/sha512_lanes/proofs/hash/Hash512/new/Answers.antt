use Rattle.std.proofs.Common.{rules}
use Rattle.sha2.specs.Sha512.{hash_after}
use Rattle.sha512_lanes.specs.Hash.{StandsFor, counted}
use Rattle.sha512_lanes.proofs.hash.Hash512.new.Goals as goal

pub returns-clause-empty : goal.returns-clause-empty
unfolding StandsFor counted hash_after
returns-clause-empty c = search rules
