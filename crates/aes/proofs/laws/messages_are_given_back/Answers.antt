use Rattle.aes.proofs.Bytes.{a_block, all_bytes}
use Rattle.aes.proofs.Messages.{cbc_back}
use Rattle.aes.proofs.laws.messages_are_given_back.Goals as goal

pub returns : goal.returns
returns c = λ key iv message size bytes whole iv_bytes message_bytes blocks.
    cbc_back key iv message size (all_bytes key bytes) (a_block iv whole iv_bytes)
    (all_bytes message message_bytes) blocks
