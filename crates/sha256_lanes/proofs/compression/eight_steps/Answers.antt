use Rattle.std.proofs.Common.{◌≡◌, ℕ, List, ◌∙◌, ap, arith, refl, ◌+◌, slice_index, sym}
use Rattle.sha256_lanes.specs.Lanes.{variables, window}
use Rattle.sha256_lanes.specs.Rounds.{rounds_until, share_in, words_from}
use Rattle.sha256_lanes.specs.Sha256.{constants}
use Rattle.sha256_lanes.proofs.Schedule.{block_words_are, four_words_done, round_done, window_word}
use Rattle.sha256_lanes.proofs.compression.eight_steps.Goals as goal

pub returns : goal.returns
returns g c j l = λ b opened same.
    let h = variables (λ x. g.W.Word.lane x j) c.args.opening.now.state in
    let w = window (λ x. g.W.Word.lane x j) c.args.w in
    let from : w ≡ words_from b 0 = same ∙ block_words_are b in
    let word = window_word b w 0 in
    let six = round_done b h (rounds_until h b 5) 5 _ _ _ (omega arith) refl refl (word 5 (omega arith) (omega arith) from) (c.with_word-v.ensures j l (rounds_until h b 5) (slice_index constants 5) opened.0) in
    let seven = round_done b h _ 6 _ _ _ (omega arith) six refl (word 6 (omega arith) (omega arith) from) (c.round-v.ensures j l) in
    let eight = round_done b h _ 7 _ _ _ (omega arith) seven refl (word 7 (omega arith) (omega arith) from) (c.round-v-2.ensures j l) in
    let share : ℕ → List ℕ → ℕ = λ k u. share_in (slice_index u k) (slice_index u (k + 1)) in
    let on = four_words_done b w 0 _ _ _ _ (omega arith) from
    (c.shared_word-w16.ensures j l (slice_index w 0) (slice_index w 1) (opened.1 ∙ ap (share 0) (sym same)))
    (c.shared_word-w17.ensures j l (slice_index w 1) (slice_index w 2) (opened.2 ∙ ap (share 1) (sym same)))
    (c.shared_word-w18.ensures j l (slice_index w 2) (slice_index w 3) (opened.3 ∙ ap (share 2) (sym same)))
    (c.shared_word-w19.ensures j l (slice_index w 3) (slice_index w 4) (opened.4 ∙ ap (share 3) (sym same))) in
    (eight, c.four_words.ensures j l b 4 (c.moved.ensures j l ∙ on) (omega arith))
