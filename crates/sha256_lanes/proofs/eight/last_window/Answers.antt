use Rattle.std.proofs.Common.{◌≡◌, ℕ, ◌+◌, ◌*◌, ◌∙◌, ap, mod-lt, pow_pos, slice_index, slice_index_or, [], sym}
use Rattle.std.proofs.lemmas.List.{get_or-replicate}
use Rattle.sha256_lanes.specs.Eight.{ended_words, head_bytes, lane_bytes, word_in}
use Rattle.sha256_lanes.specs.Lanes.{variables}
use Rattle.sha256_lanes.proofs.Windows.{window_of, word_of}
use Rattle.sha256_lanes.proofs.eight.last_window.Goals as goal

pub returns : goal.returns
unfolding head_bytes lane_bytes
returns g c j h =
    let heads = c.args.heads.now in
    let v = c.args.values.now.words in
    let n = g.row.N in
    let rows = c.ended_words.result in
    let at : (i : ℕ) → word_in (slice_index_or rows i []) j ≡ slice_index (ended_words n (variables (λ lanes. word_in lanes j) v)) i =
    λ i. word_of rows j i ∙ ap (λ l. slice_index l i) (c.ended_words.ensures j h) in
    rw (
      c.fronts.ensures j h,
      c.middle.ensures j h,
      c.middle-2.ensures j h,
      c.middle-3.ensures j h,
      c.middle-4.ensures j h,
      c.middle-5.ensures j h,
      c.middle-6.ensures j h,
      c.middle-7.ensures j h,
      c.middle-8.ensures j h,
      at 0,
      at 1,
      at 2,
      at 3,
      at 4,
      at 5,
      at 6,
      at 7,
      at 8,
      get_or-replicate {A = ℕ} 8 j 0 0 h,
      get_or-replicate {A = ℕ} 8 j (8 * (86 + n)) 0 h,
    ) (sym (window_of (word_in heads.w0 j) (word_in heads.w1 j) (word_in heads.w2 j) (word_in heads.w3 j) (word_in heads.w4 j) (word_in heads.w5 j)
    (word_in v.a j) (word_in v.b j) (word_in v.c j) (word_in v.d j) (word_in v.e j) (word_in v.f j) (word_in v.g j) (word_in v.h j)
    (mod-lt _ (pow_pos 32)) (mod-lt _ (pow_pos 32)) (mod-lt _ (pow_pos 32)) (mod-lt _ (pow_pos 32)) (mod-lt _ (pow_pos 32)) (mod-lt _ (pow_pos 32))
    (mod-lt _ (pow_pos 32)) (mod-lt _ (pow_pos 32)) (mod-lt _ (pow_pos 32)) (mod-lt _ (pow_pos 32)) (mod-lt _ (pow_pos 32)) (mod-lt _ (pow_pos 32)) (mod-lt _ (pow_pos 32)) (mod-lt _ (pow_pos 32))
    n c.requires.width))
