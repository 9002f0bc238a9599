use Rattle.std.proofs.Common.{◌≡◌, ◌<◌, ◌∙◌, ℕ, List, [], ◌∷◌, ap, arith, slice_index_or, sym}
use Rattle.sha2.specs.Sha512.{compress, hash_after}
use Rattle.sha2.proofs.Absorbing512.{hash_after_next}
use Rattle.sha512_lanes.proofs.LongRows.{none_yet}
use Rattle.word_lanes.proofs.Vectors.{below_four}
use Rattle.sha512_lanes.proofs.rows.fold_rows.Goals as goal

pub each_block-init : goal.each_block-init
each_block-init c = λ j low. c.spread-state.ensures j low ∙ sym (none_yet c.args.words.now (slice_index_or c.args.padded.now j []))

pub each_block-preserved : goal.each_block-preserved
each_block-preserved c = λ j low.
    let block = slice_index_or c.blocks_at.result j [] in
    let row = slice_index_or c.args.padded.now j [] in
    let before = hash_after c.args.words.now row c.each_block.b in
    c.compressed-state.ensures j low block (c.window_of.ensures j low)
    ∙ ap (λ (h : List ℕ). compress h block) (c.each_block.invariant j low)
    ∙ ap (compress before) (c.blocks_at.ensures j low)
    ∙ sym (hash_after_next c.args.words.now row c.each_block.b)

pub returns-clause-words : goal.returns-clause-words
returns-clause-words c =
    let all : c.each_block.b ≡ c.args.count = omega arith in
    let want : ℕ → List ℕ = λ j. hash_after c.args.words.now (slice_index_or c.args.padded.now j []) c.args.count in
    let done : (j : ℕ) → j < 4 → _ ≡ want j = λ j low. c.each_block.invariant j low ∙ ap (hash_after c.args.words.now (slice_index_or c.args.padded.now j [])) all in
    below_four (λ j. slice_index_or (c.row.result ∷ c.row-2.result ∷ c.row-3.result ∷ c.row-4.result ∷ []) j [] ≡ want j)
    (c.row.ensures ∙ done 0 (omega arith)) (c.row-2.ensures ∙ done 1 (omega arith))
    (c.row-3.ensures ∙ done 2 (omega arith)) (c.row-4.ensures ∙ done 3 (omega arith))
