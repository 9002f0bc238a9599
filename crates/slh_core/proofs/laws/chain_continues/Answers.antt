use Rattle.slh_core.proofs.Chains.{chain-add}
use Rattle.slh_core.proofs.laws.chain_continues.Goals as goal

pub returns : goal.returns
returns c = λ K x j t l p i q r. chain-add K x j t l p i q r
