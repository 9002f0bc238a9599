use Rattle.std.proofs.Common.{refl}
use Rattle.slh_core.proofs.ActiveLists.{active_none}
use Rattle.slh_core.proofs.active_chains.ActiveChains.new.Goals as goal

pub returns-clause-active : goal.returns-clause-active
returns-clause-active c = λ digits. active_none digits _ refl refl refl
