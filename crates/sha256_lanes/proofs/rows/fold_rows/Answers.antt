use Rattle.std.proofs.Common.{◌≡◌, ◌*◌, ◌++◌, ◌∙◌, ℕ, List, [], ap, arith, drop, slice_index_or, sym, take}
use Rattle.sha256_lanes.specs.Sha256.{compress, fold_blocks, padding}
use Rattle.sha256_lanes.proofs.Folding.{fold_blocks_next}
use Rattle.sha256_lanes.proofs.rows.fold_rows.Goals as goal

pub each_block-init : goal.each_block-init
unfolding fold_blocks
each_block-init c = λ j low. c.spread-state.ensures j low

pub each_block-preserved : goal.each_block-preserved
each_block-preserved c = λ j low.
    let row = take c.args.len (drop (j * c.args.len) c.args.rows.now) ++ padding c.args.total in
    let before = fold_blocks c.args.words.now row c.each_block.b in
    let block = slice_index_or c.blocks_at.result j [] in
    c.compressed-state.ensures j low block (c.window_of.ensures j low)
    ∙ ap (λ (h : List ℕ). compress h block) (c.each_block.invariant j low)
    ∙ ap (compress before) (c.blocks_at.ensures j low)
    ∙ sym (fold_blocks_next c.args.words.now row c.each_block.b)

pub returns : goal.returns
returns c = λ j low.
    let row = take c.args.len (drop (j * c.args.len) c.args.rows.now) ++ padding c.args.total in
    let all : c.each_block.b ≡ _ = omega arith in
    c.each_block.invariant j low ∙ ap (fold_blocks c.args.words.now row) all
