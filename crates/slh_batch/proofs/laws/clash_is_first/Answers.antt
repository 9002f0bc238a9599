use Rattle.slh_batch.proofs.Climbs.{first_of, height_of, none_of, nowhere}
use Rattle.slh_batch.proofs.laws.clash_is_first.Goals as goal

pub returns-clause-some : goal.returns-clause-some
returns-clause-some c = λ Z m a o b h. (first_of Z m a o b h, λ both. height_of Z m a o b h both.0 both.1)

pub returns-clause-none : goal.returns-clause-none
returns-clause-none c = λ Z m a o b. (nowhere Z m a o b, none_of Z m a o b)
