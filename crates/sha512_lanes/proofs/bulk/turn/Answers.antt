use Rattle.std.proofs.Common.{arith, ap, sym, ◌∙◌, List, ℕ}
use Rattle.sha2.specs.Sha512.{compress, hash_after}
use Rattle.sha512_lanes.specs.Batches.{block_in}
use Rattle.sha512_lanes.specs.Lanes.{variables}
use Rattle.sha512_lanes.proofs.Batches.{filled_at, hash_after_one}
use Rattle.sha512_lanes.proofs.Schedule.{rounds_none}
use Rattle.sha2.proofs.Absorbing512.{hash_after_next}
use Rattle.sha512_lanes.proofs.bulk.turn.Goals as goal

pub later_blocks-init : goal.later_blocks-init
later_blocks-init c = (
  λ p filled.
      let h = variables (λ x. x) c.named-s.result in
      c.sums-s.ensures (block_in p 0) (c.later_rounds.ensures.value h p filled (c.first_rounds-v.ensures.value p filled))
      ∙ ap (λ (x : List ℕ). compress x (block_in p 0)) c.named-s.ensures
      ∙ sym (hash_after_one c.args.state.now p),
  c.later_rounds.ensures.next c.args.blocks.now c.first_rounds-v.ensures.next,
)

pub later_blocks-preserved : goal.later_blocks-preserved
later_blocks-preserved c = (
  λ p filled.
      let j = c.later_blocks.j in
      let h = variables (λ x. x) c.later_blocks.s in
      c.sums-s-in-later_blocks.ensures (block_in p j) (c.later_rounds-in-later_blocks.ensures.value h p filled (rounds_none h (block_in p j)))
      ∙ ap (λ (x : List ℕ). compress x (block_in p j)) (c.later_blocks.invariant.0 p filled)
      ∙ sym (hash_after_next c.args.state.now p j),
  (let before = filled_at _ _ _ _ (omega arith) c.later_blocks.invariant.1 in
      filled_at _ _ _ _ (omega arith) (c.later_rounds-in-later_blocks.ensures.next c.args.blocks.now before)),
)

pub returns-clause-state : goal.returns-clause-state
returns-clause-state c = λ p filled. c.later_blocks.invariant.0 p filled ∙ ap (hash_after c.args.state.now p) (omega arith)

pub returns-clause-next : goal.returns-clause-next
returns-clause-next c = filled_at _ _ _ _ (omega arith) c.later_blocks.invariant.1
