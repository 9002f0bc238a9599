use Rattle.std.proofs.Common.{◌≡◌, ◌*◌, ◌%◌, ◌^◌, ◌∙◌, ◌∷◌, [], slice_index, slice_index_or}
use Rattle.sha256_lanes.specs.Sha256.{block_word}
use Rattle.std.proofs.Math.Nat.{mod-eq_of_lt}
use Rattle.word_lanes.proofs.Vectors.{below_eight}
use Rattle.sha256_lanes.proofs.word.U32x8Word.of_blocks.Goals as goal

pub returns : goal.returns
returns c j h =
    below_eight (λ i. slice_index (c.block_word.result ∷ c.block_word-2.result ∷ c.block_word-3.result ∷ c.block_word-4.result ∷ c.block_word-5.result ∷ c.block_word-6.result ∷ c.block_word-7.result ∷ c.block_word-8.result ∷ []) i % 2 ^ 32 ≡ block_word (slice_index_or c.args.blocks.now i []) (4 * c.args.k))
    (mod-eq_of_lt c.block_word.type_inv ∙ c.block_word.ensures) (mod-eq_of_lt c.block_word-2.type_inv ∙ c.block_word-2.ensures) (mod-eq_of_lt c.block_word-3.type_inv ∙ c.block_word-3.ensures) (mod-eq_of_lt c.block_word-4.type_inv ∙ c.block_word-4.ensures) (mod-eq_of_lt c.block_word-5.type_inv ∙ c.block_word-5.ensures) (mod-eq_of_lt c.block_word-6.type_inv ∙ c.block_word-6.ensures) (mod-eq_of_lt c.block_word-7.type_inv ∙ c.block_word-7.ensures) (mod-eq_of_lt c.block_word-8.type_inv ∙ c.block_word-8.ensures) j h
