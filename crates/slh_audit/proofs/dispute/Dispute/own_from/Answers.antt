use Rattle.std.proofs.Common.{arith, ◌∙◌}
use Rattle.std.proofs.lemmas.Grind.{common_steps}
use Rattle.slh_merkle.specs.Checking.{checked_message}
use Rattle.slh_audit.proofs.dispute.Dispute.own_from.Goals as goal

pub loop-layer-init : goal.loop-layer-init
unfolding checked_message
loop-layer-init g c = record {
  checked = c.checked_key-checked.ensures;
  own = c.copy-own.ensures ∙ c.requires.key;
  low = omega arith;
  made = λ i low below. absurd (omega arith);
}

pub returns : goal.returns
returns g c = grind (arith, common_steps)
