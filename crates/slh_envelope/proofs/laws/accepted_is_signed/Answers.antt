use Rattle.slh_envelope.proofs.Accepted.{accepted_is_signed}
use Rattle.slh_envelope.proofs.laws.accepted_is_signed.Goals as goal

pub returns : goal.returns
returns c = accepted_is_signed
