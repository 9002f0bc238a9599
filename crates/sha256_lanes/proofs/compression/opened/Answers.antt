use Rattle.std.proofs.Common.{◌≡◌, ℕ, List, [], ◌∷◌, ◌<◌, ◌∙◌, ap, arith, refl, slice_index, sym, take}
use Rattle.sha256_lanes.specs.Lanes.{variables}
use Rattle.sha256_lanes.specs.Rounds.{block_words, rounds_until, share_in}
use Rattle.sha256_lanes.specs.Sha256.{constants, round, schedule}
use Rattle.sha256_lanes.proofs.Schedule.{block_words_are, round_done, rounds_until_none, window_word}
use Rattle.sha256_lanes.proofs.compression.opened.Goals as goal

pub returns-clause-opened : goal.returns-clause-opened
returns-clause-opened g c j l = λ b same.
    let h = variables (λ x. g.W.Word.lane x j) c.args.state in
    let word : (k : ℕ) → k < 16 → slice_index (block_words b) k ≡ slice_index (schedule b 64) k = λ k low.
    window_word b (block_words b) 0 k low (omega arith) (block_words_are b) ∙ ap (slice_index (schedule b 64)) (omega arith) in
    let lane : g.row.W.Denot → ℕ = λ x. g.W.Word.lane x j in
    let w = c.args.words in
    let ws : List ℕ = lane w.0 ∷ lane w.1 ∷ lane w.2 ∷ lane w.3 ∷ lane w.4 ∷ [] in
    let at : (k : ℕ) → slice_index ws k ≡ slice_index (take 5 (block_words b)) k = λ k. ap (λ u. slice_index u k) (sym same) in
    let four = c.four_rounds-v.ensures j l h b (rounds_until_none h b)
    (at 0 ∙ word 0 (omega arith), at 1 ∙ word 1 (omega arith), at 2 ∙ word 2 (omega arith), at 3 ∙ word 3 (omega arith)) in
    let five = round_done b h _ 4 _ _ _ (omega arith) four refl (at 4 ∙ word 4 (omega arith)) (c.round-v.ensures j l) in
    let k : ℕ = slice_index constants 5 in (
      c.round.ensures j l ∙ ap (λ u. round u k (lane c.splat.result)) five ∙ ap (λ x. round (rounds_until h b 5) k x) (c.splat.ensures j l),
      c.share.ensures j l ∙ ap (λ u. share_in (slice_index u 0) (slice_index u 1)) (sym same),
      c.share-2.ensures j l ∙ ap (λ u. share_in (slice_index u 1) (slice_index u 2)) (sym same),
      c.share-3.ensures j l ∙ ap (λ u. share_in (slice_index u 2) (slice_index u 3)) (sym same),
      c.share-4.ensures j l ∙ ap (λ u. share_in (slice_index u 3) (slice_index u 4)) (sym same),
    )
