use Rattle.std.proofs.Common.{arith}
use Rattle.std.proofs.lemmas.Grind.{common_steps}
use Rattle.std.proofs.lemmas.Bool.{false≢true}
use Rattle.slh_audit.proofs.Shown.{told}
use Rattle.slh_audit.proofs.Meaning.{IsShown}
use Rattle.slh_audit.proofs.dispute.Dispute.any_chain_step_shows.Goals as goal

pub returns-then-layer-D : goal.returns-then-layer-D
unfolding IsShown
returns-then-layer-D g c =
    told _ _ _ ((λ t. absurd (false≢true t)), (λ shows. absurd (omega (arith, c.if-layer-D.true, shows.1.0))))

pub returns-then-chain-WOTS_SIG_LEN : goal.returns-then-chain-WOTS_SIG_LEN
unfolding IsShown
returns-then-chain-WOTS_SIG_LEN g c =
    told _ _ _ ((λ t. absurd (false≢true t)), (λ shows. absurd (omega (arith, c.if-chain-WOTS_SIG_LEN.true, shows.0))))

pub returns : goal.returns
returns g c = grind (arith, common_steps)
