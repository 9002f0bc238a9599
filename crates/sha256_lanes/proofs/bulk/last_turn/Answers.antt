use Rattle.std.proofs.Common.{arith, ap, sym, ◌∙◌, List, ℕ}
use Rattle.sha256_lanes.specs.Batches.{block_in}
use Rattle.sha256_lanes.specs.Sha256.{compress, fold_blocks}
use Rattle.sha256_lanes.proofs.Folding.{fold_blocks_next}
use Rattle.sha256_lanes.proofs.bulk.last_turn.Goals as goal

pub last_blocks-init : goal.last_blocks-init
unfolding fold_blocks
last_blocks-init c = λ p filled. c.named-s.ensures

pub last_blocks-preserved : goal.last_blocks-preserved
last_blocks-preserved c = λ p filled.
    let j = c.last_blocks.j in
    c.lone_turn-s.ensures p filled ∙ ap (λ (x : List ℕ). compress x (block_in p j)) (c.last_blocks.invariant p filled)
    ∙ sym (fold_blocks_next c.args.state.now p j)

pub returns : goal.returns
returns c = λ p filled. c.last_blocks.invariant p filled ∙ ap (fold_blocks c.args.state.now p) (omega arith)
