use Rattle.std.proofs.Common.{arith, ap, sym, ◌∙◌, List, ℕ}
use Rattle.sha256_lanes.specs.Batches.{block_in}
use Rattle.sha256_lanes.specs.Sha256.{compress, fold_blocks}
use Rattle.sha256_lanes.proofs.Batches.{filled_at, filled_none}
use Rattle.sha256_lanes.proofs.Folding.{fold_blocks_next}
use Rattle.sha256_lanes.proofs.bulk.turn.Goals as goal

pub later_blocks-init : goal.later_blocks-init
unfolding fold_blocks
later_blocks-init c = (
  λ p filled.
      let b : ℕ → List ℕ → List ℕ = λ j x. compress x (block_in p j) in
      c.first_turn-s-2.ensures.value p filled ∙ ap (b 1) (c.first_turn-s.ensures.value p filled ∙ ap (b 0) c.named.ensures),
  c.first_turn-s-2.ensures.next (c.first_turn-s.ensures.next (filled_none c.args.next.now c.args.blocks.now)),
)

pub later_blocks-preserved : goal.later_blocks-preserved
later_blocks-preserved c = (
  λ p filled.
      let j = c.later_blocks.j in
      c.later_turn-s.ensures.value p filled ∙ ap (λ (x : List ℕ). compress x (block_in p j)) (c.later_blocks.invariant.0 p filled)
      ∙ sym (fold_blocks_next c.args.state.now p j),
  filled_at _ _ _ _ (omega arith) (c.later_turn-s.ensures.next c.args.blocks.now c.later_blocks.invariant.1),
)

pub returns-clause-state : goal.returns-clause-state
returns-clause-state c = λ p filled. c.later_blocks.invariant.0 p filled ∙ ap (fold_blocks c.args.state.now p) (omega arith)

pub returns-clause-next : goal.returns-clause-next
returns-clause-next c = filled_at _ _ _ _ (omega arith) c.later_blocks.invariant.1
