use Rattle.slh_sets.proofs.Own.{own_name, own_number}
use Rattle.slh_sets.proofs.laws.names_and_numbers_are_read.Goals as goal

pub returns-clause-name : goal.returns-clause-name
returns-clause-name c = own_name

pub returns-clause-number : goal.returns-clause-number
returns-clause-number c = own_number
