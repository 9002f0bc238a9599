use Rattle.slh_chain.proofs.Exact.{ended, faulty, few, good, refused}
use Rattle.slh_chain.proofs.laws.walks_are_exact.Goals as goal

pub returns-clause-good : goal.returns-clause-good
returns-clause-good g c = λ root chain end is. good g.P.ForsSizes.scheme root chain end is

pub returns-clause-ended : goal.returns-clause-ended
returns-clause-ended g c = λ root chain links all. ended g.P.ForsSizes.scheme root chain links all

pub returns-clause-faulty : goal.returns-clause-faulty
returns-clause-faulty g c = λ root chain fault is. faulty g.P.ForsSizes.scheme root chain fault is

pub returns-clause-few : goal.returns-clause-few
returns-clause-few g c = λ root chain links all. few g.P.ForsSizes.scheme root chain links all

pub returns-clause-refused : goal.returns-clause-refused
returns-clause-refused g c = λ root chain i fault is. refused g.P.ForsSizes.scheme root chain i fault is
