use Rattle.std.proofs.Common.{List, ℕ, ◌≡◌, ◌+◌, ◌-◌, ◌*◌, ◌∙◌, ◌≤◌, length, ap, arith, refl, sym}
use Rattle.sha2.specs.Sha512.{hash_after}
use Rattle.sha512_lanes.specs.Batches.{batch_at}
use Rattle.sha512_lanes.proofs.Batches.{filled_of, hash_after_batch, last_batch, none_yet}
use Rattle.sha512_lanes.proofs.bulk.absorb_batches.Goals.{then-i-eq1, else-i-eq1}
use Rattle.sha512_lanes.proofs.bulk.absorb_batches.Goals as goal

pub batches-init : goal.batches-init
batches-init c =
    let made = filled_of _ _ (batch_at c.args.blocks.now 0) 80 c.batch_at.ensures c.expand.ensures in
    (sym (none_yet c.args.state.now c.args.blocks.now), λ odd. made, λ even. absurd (even refl))

pub batches-preserved : goal.batches-preserved
batches-preserved c =
    let p : List ℕ = c.args.blocks.now in
    let i : ℕ = c.batches.i in
    let before : ℕ = i - 1 in
    let h : List ℕ = c.args.state.now in
    let following = c.batch_at-following.result in
    let inside : 512 * before + 512 ≤ length p = omega (arith, c.batches-test.true, c.requires.inside) in
    let here : before + 1 ≡ i = omega (arith, c.batches.auto.i) in
    let place : i + 1 - 1 ≡ i = omega arith in
    let next : following ≡ batch_at p (i + 1 - 1) = c.batch_at-following.ensures ∙ ap (batch_at p) (sym place) in
    let folded : hash_after (hash_after h p (4 * before)) (batch_at p before) 4 ≡ hash_after h p (4 * (i + 1 - 1)) =
    hash_after_batch h p before inside ∙ ap (λ (n : ℕ). hash_after h p (4 * n)) (here ∙ sym place) in
    elim c.if-i-eq1.branch [
      | then-i-eq1 w ↦
          let now = c.batches.invariant.1 (omega (arith, w.if-i-eq1)) in
          let made = w.turn.ensures.next in
          rw (w.state-is, w.even-is, w.odd-is) (
            w.turn.ensures.state (batch_at p before) now ∙ ap (λ (s : List ℕ). hash_after s (batch_at p before) 4) c.batches.invariant.0 ∙ folded,
            λ odd. absurd (omega (arith, odd, w.if-i-eq1)),
            λ even. filled_of _ _ _ 80 next made,
          )
      | else-i-eq1 w ↦
          let now = c.batches.invariant.2 (λ odd. absurd (omega (arith, odd, w.if-i-eq1))) in
          let made = w.turn-else-i-eq1.ensures.next in
          rw (w.state-is, w.even-is, w.odd-is) (
            w.turn-else-i-eq1.ensures.state (batch_at p before) now ∙ ap (λ (s : List ℕ). hash_after s (batch_at p before) 4) c.batches.invariant.0 ∙ folded,
            λ odd. filled_of _ _ _ 80 next made,
            λ even. absurd (even (omega (arith, w.if-i-eq1))),
          )
    ]

pub returns-then-count-eq1 : goal.returns-then-count-eq1
returns-then-count-eq1 c =
    let now = c.batches.invariant.1 (omega (arith, c.if-count-eq1.true, c.batches-test.false, c.requires.some)) in
    c.last_turn.ensures (batch_at c.args.blocks.now (c.batches.i - 1)) now
    ∙ last_batch c.args.state.now c.args.blocks.now c.batches.state c.batches.i c.args.count c.batches.invariant.0
    (omega (arith, c.batches-test.false, c.requires.some)) c.requires.some c.requires.inside

pub returns-else-count-eq1 : goal.returns-else-count-eq1
returns-else-count-eq1 c =
    let now = c.batches.invariant.2 (λ odd. absurd (omega (arith, odd, c.if-count-eq1.false, c.batches-test.false, c.requires.some))) in
    c.last_turn-else-count-eq1.ensures (batch_at c.args.blocks.now (c.batches.i - 1)) now
    ∙ last_batch c.args.state.now c.args.blocks.now c.batches.state c.batches.i c.args.count c.batches.invariant.0
    (omega (arith, c.batches-test.false, c.requires.some)) c.requires.some c.requires.inside
