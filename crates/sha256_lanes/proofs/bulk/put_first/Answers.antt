use Rattle.std.proofs.Common.{◌≡◌, ◌+◌, ◌*◌, ◌%◌, ◌^◌, ◌∙◌, ◌∷◌, [], ℕ, arith, slice_index}
use Rattle.std.proofs.Math.Nat.{mod-eq_of_lt}
use Rattle.sha256_lanes.specs.Batches.{block_in}
use Rattle.sha256_lanes.specs.Sha256.{block_word, schedule}
use Rattle.sha256_lanes.proofs.Batches.{first_word}
use Rattle.word_lanes.proofs.Vectors.{below_eight}
use Rattle.sha256_lanes.proofs.bulk.put_first.Goals as goal

pub returns : goal.returns
returns c filled =
    let p = c.args.blocks.now in
    let t = c.args.t in
    let is : (j start : ℕ) → start ≡ 4 * t + 64 * j → block_word p start ≡ slice_index (schedule (block_in p j) 64) t
    = λ j start same. first_word p j t start c.requires same in
    c.put.ensures p filled (λ j lane.
    below_eight (λ i. slice_index (c.word_at.result ∷ c.word_at-2.result ∷ c.word_at-3.result ∷ c.word_at-4.result ∷ c.word_at-5.result ∷ c.word_at-6.result ∷ c.word_at-7.result ∷ c.word_at-8.result ∷ []) i % 2 ^ 32 ≡ slice_index (schedule (block_in p i) 64) t)
    (mod-eq_of_lt c.word_at.type_inv ∙ c.word_at.ensures ∙ is 0 _ (omega arith))
    (mod-eq_of_lt c.word_at-2.type_inv ∙ c.word_at-2.ensures ∙ is 1 _ (omega arith))
    (mod-eq_of_lt c.word_at-3.type_inv ∙ c.word_at-3.ensures ∙ is 2 _ (omega arith))
    (mod-eq_of_lt c.word_at-4.type_inv ∙ c.word_at-4.ensures ∙ is 3 _ (omega arith))
    (mod-eq_of_lt c.word_at-5.type_inv ∙ c.word_at-5.ensures ∙ is 4 _ (omega arith))
    (mod-eq_of_lt c.word_at-6.type_inv ∙ c.word_at-6.ensures ∙ is 5 _ (omega arith))
    (mod-eq_of_lt c.word_at-7.type_inv ∙ c.word_at-7.ensures ∙ is 6 _ (omega arith))
    (mod-eq_of_lt c.word_at-8.type_inv ∙ c.word_at-8.ensures ∙ is 7 _ (omega arith)) j lane)
