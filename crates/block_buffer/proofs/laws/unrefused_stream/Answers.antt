use Rattle.block_buffer.proofs.Streams.{unrefused}
use Rattle.block_buffer.proofs.laws.unrefused_stream.Goals as goal

pub returns-clause-stream : goal.returns-clause-stream
returns-clause-stream g c = λ none.
    unrefused c.digest_blocks.result _ _ _ _ _ _ _ c.digest_blocks.ensures.ok c.digest_blocks.ensures.rest c.digest_blocks.ensures.cause none
