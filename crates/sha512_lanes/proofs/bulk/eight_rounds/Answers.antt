use Rattle.std.proofs.Common.{ℕ, List, [], ap, arith, refl, slice_index, slice_index_or, ◌≡◌, ◌<◌, ◌∙◌, ◌+◌}
use Rattle.sha2.specs.Sha512.{add64, round_constants, rounds, schedule}
use Rattle.sha512_lanes.specs.Batches.{block_in, word_in}
use Rattle.sha512_lanes.proofs.Batches.{filled_keyed}
use Rattle.sha512_lanes.proofs.Schedule.{round_done}
use Rattle.sha512_lanes.proofs.bulk.eight_rounds.Goals as goal

pub returns : goal.returns
returns c h p filled done =
    let t = c.args.t in
    let j = c.args.j in
    let b : List ℕ = block_in p j in
    let at = rounds h (schedule b 64) in
    let k : ℕ → ℕ = slice_index round_constants in
    let w : ℕ → ℕ = slice_index (schedule b 64) in
    let keyed : (i : ℕ) → i < 80 → word_in (slice_index_or c.args.now.now.keyed i []) j ≡ add64 (w i) (k i)
    = λ i low. filled_keyed c.args.now.now p 80 i j filled low c.requires.block in
    let one = round_done b h _ t _ _ _ (omega arith) done refl refl (c.keyed_round-v.ensures (k t) (w t) (keyed t (omega arith))) in
    let two = round_done b h _ (t + 1) _ _ _ (omega arith) one refl refl (c.keyed_round-v-2.ensures (k (t + 1)) (w (t + 1)) (keyed (t + 1) (omega arith))) in
    let three = round_done b h _ (t + 2) _ _ _ (omega arith) (two ∙ ap at (omega arith)) refl refl (c.keyed_round-v-3.ensures (k (t + 2)) (w (t + 2)) (keyed (t + 2) (omega arith))) in
    let four = round_done b h _ (t + 3) _ _ _ (omega arith) (three ∙ ap at (omega arith)) refl refl (c.keyed_round-v-4.ensures (k (t + 3)) (w (t + 3)) (keyed (t + 3) (omega arith))) in
    let five = round_done b h _ (t + 4) _ _ _ (omega arith) (four ∙ ap at (omega arith)) refl refl (c.keyed_round-v-5.ensures (k (t + 4)) (w (t + 4)) (keyed (t + 4) (omega arith))) in
    let six = round_done b h _ (t + 5) _ _ _ (omega arith) (five ∙ ap at (omega arith)) refl refl (c.keyed_round-v-6.ensures (k (t + 5)) (w (t + 5)) (keyed (t + 5) (omega arith))) in
    let seven = round_done b h _ (t + 6) _ _ _ (omega arith) (six ∙ ap at (omega arith)) refl refl (c.keyed_round-v-7.ensures (k (t + 6)) (w (t + 6)) (keyed (t + 6) (omega arith))) in
    round_done b h _ (t + 7) _ _ _ (omega arith) (seven ∙ ap at (omega arith)) refl refl (c.keyed_round.ensures (k (t + 7)) (w (t + 7)) (keyed (t + 7) (omega arith))) ∙ ap at (omega arith)
