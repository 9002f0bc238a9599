use Rattle.fips205_law.proofs.Toy.{toy_values}
use Rattle.fips205_law.proofs.toy_agrees.Goals as goal

pub returns : goal.returns
returns c = toy_values
