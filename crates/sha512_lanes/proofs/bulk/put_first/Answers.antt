use Rattle.std.proofs.Common.{◌≡◌, ◌+◌, ◌*◌, ◌%◌, ◌^◌, ◌∙◌, ◌∷◌, [], ℕ, arith, slice_index}
use Rattle.std.proofs.Math.Nat.{mod-eq_of_lt}
use Rattle.sha2.specs.Sha512.{schedule, word_at}
use Rattle.word_lanes.proofs.Vectors.{below_four}
use Rattle.sha512_lanes.specs.Batches.{block_in}
use Rattle.sha512_lanes.proofs.Batches.{first_word}
use Rattle.sha512_lanes.proofs.bulk.put_first.Goals as goal

pub returns : goal.returns
returns c filled =
    let p = c.args.blocks.now in
    let t = c.args.t in
    let is : (j start : ℕ) → start ≡ 8 * t + 128 * j → word_at p start ≡ slice_index (schedule (block_in p j) 64) t
    = λ j start same. first_word p j t start c.requires same in
    c.put.ensures p filled (λ j lane.
    below_four (λ i. slice_index (c.batch_word.result ∷ c.batch_word-2.result ∷ c.batch_word-3.result ∷ c.batch_word-4.result ∷ []) i % 2 ^ 64 ≡ slice_index (schedule (block_in p i) 64) t)
    (mod-eq_of_lt (omega arith) ∙ c.batch_word.ensures ∙ is 0 _ (omega arith))
    (mod-eq_of_lt (omega arith) ∙ c.batch_word-2.ensures ∙ is 1 _ (omega arith))
    (mod-eq_of_lt (omega arith) ∙ c.batch_word-3.ensures ∙ is 2 _ (omega arith))
    (mod-eq_of_lt (omega arith) ∙ c.batch_word-4.ensures ∙ is 3 _ (omega arith)) j lane)
