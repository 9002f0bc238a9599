use Rattle.aes.proofs.Bytes.{a_block, all_bytes}
use Rattle.aes.proofs.Undone.{cipher_undone}
use Rattle.aes.proofs.laws.blocks_are_given_back.Goals as goal

pub returns : goal.returns
returns c = λ key block size bytes whole block_bytes.
    cipher_undone key block size (all_bytes key bytes) (a_block block whole block_bytes)
