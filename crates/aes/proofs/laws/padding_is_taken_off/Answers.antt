use Rattle.aes.proofs.Messages.{unpadded}
use Rattle.aes.proofs.laws.padding_is_taken_off.Goals as goal

pub returns : goal.returns
returns c = unpadded
