use Rattle.std.proofs.Common.{arith, ap, sym, ◌∙◌, List, ℕ}
use Rattle.sha2.specs.Sha512.{compress, hash_after}
use Rattle.sha2.proofs.Absorbing512.{hash_after_next}
use Rattle.sha512_lanes.specs.Batches.{block_in}
use Rattle.sha512_lanes.proofs.Batches.{none_yet}
use Rattle.sha512_lanes.proofs.bulk.last_turn.Goals as goal

pub last_blocks-init : goal.last_blocks-init
last_blocks-init c = λ p filled. c.named-s.ensures ∙ sym (none_yet c.args.state.now p)

pub last_blocks-preserved : goal.last_blocks-preserved
last_blocks-preserved c = λ p filled.
    let j = c.last_blocks.j in
    c.sums-s.ensures (block_in p j) (c.all_rounds.ensures p filled)
    ∙ ap (λ (x : List ℕ). compress x (block_in p j)) (c.last_blocks.invariant p filled)
    ∙ sym (hash_after_next c.args.state.now p j)

pub returns : goal.returns
returns c = λ p filled. c.last_blocks.invariant p filled ∙ ap (hash_after c.args.state.now p) (omega arith)
