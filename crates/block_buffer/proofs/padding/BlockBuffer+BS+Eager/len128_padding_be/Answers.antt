use Rattle.block_buffer.proofs.padding.«BlockBuffer+BS+Eager».len128_padding_be.Goals as goal

pub returns-clause-padded : goal.returns-clause-padded
returns-clause-padded g c = rw c.to_be_bytes.ensures at c.digest_pad.ensures.padded
