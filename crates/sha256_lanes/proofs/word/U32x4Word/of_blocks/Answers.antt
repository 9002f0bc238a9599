use Rattle.std.proofs.Common.{◌≡◌, ◌*◌, ◌%◌, ◌^◌, ◌∙◌, ◌∷◌, [], arith, slice_index, slice_index_or}
use Rattle.sha256_lanes.specs.Sha256.{block_word}
use Rattle.std.proofs.Math.Nat.{mod-eq_of_lt}
use Rattle.word_lanes.proofs.Vectors.{below_four}
use Rattle.sha256_lanes.proofs.word.U32x4Word.of_blocks.Goals as goal

pub returns : goal.returns
returns c j h =
    below_four (λ i. slice_index (c.block_word.result ∷ c.block_word-2.result ∷ c.block_word-3.result ∷ c.block_word-4.result ∷ []) i % 2 ^ 32 ≡ block_word (slice_index_or c.args.blocks.now i []) (4 * c.args.k))
    (mod-eq_of_lt (omega arith) ∙ c.block_word.ensures) (mod-eq_of_lt (omega arith) ∙ c.block_word-2.ensures) (mod-eq_of_lt (omega arith) ∙ c.block_word-3.ensures) (mod-eq_of_lt (omega arith) ∙ c.block_word-4.ensures) j h
