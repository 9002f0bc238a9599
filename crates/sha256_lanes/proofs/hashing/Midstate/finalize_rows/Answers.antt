use Rattle.std.proofs.Common.{◌≡◌, ◌<◌, ◌≤◌, ◌+◌, ◌*◌, ◌∙◌, ℕ, List, [], ap, arith, drop, get_or, length, length-drop, length-set, length-take-le, set, take}
use Rattle.std.proofs.lemmas.Grind.{elements}
use Rattle.std.proofs.lemmas.Nat.{mul-le}
use Rattle.sha256_lanes.specs.Midstate.{BeginsWith}
use Rattle.sha256_lanes.specs.Eight.{word_in}
use Rattle.sha256_lanes.specs.Lanes.{variables}
use Rattle.sha256_lanes.specs.Sha256.{word_bytes}
use Rattle.sha256_lanes.proofs.LongRows.{sha256_of_row}
use Rattle.sha256_lanes.proofs.hashing.Midstate.finalize_rows.Goals as goal

more : {X : Type 0} (f : ℕ → X) (xs : List X) (j : ℕ) (x d : X) → j < length xs → x ≡ f j
    → ((k : ℕ) → k < j → get_or xs k d ≡ f k) → (k : ℕ) → k < j + 1 → get_or (set xs j x) k d ≡ f k
more f xs j x d low is before k below = grind (arith, elements)

pub each_lane-preserved : goal.each_lane-preserved
each_lane-preserved c = (
  rw length-set c.each_lane.invariant.0,
  more (λ k. word_bytes (variables (λ lanes. word_in lanes k) c.fold_rows-state.result)) c.each_lane.digests c.each_lane.j c.word_bytes.result [] (omega arith)
      (c.word_bytes.ensures ∙ ap word_bytes c.row.ensures) c.each_lane.invariant.1,
)

pub returns : goal.returns
unfolding BeginsWith
returns c = λ m j held low.
    let len = c.args.len in
    let rows = c.args.rows.now in
    let row = take len (drop (j * len) rows) in
    let room : (j + 1) * len ≤ 8 * len = mul-le (j + 1) len 8 len (omega (arith, low)) (omega arith) in
    let next : (j + 1) * len ≡ j * len + len = omega arith in
    let size : length row ≡ len = length-take-le len (drop (j * len) rows) (omega (arith, length-drop (j * len) rows, room, next, c.requires.whole)) in
    c.each_lane.invariant.1 j (omega (arith, low))
    ∙ sha256_of_row c.args.self.now.words m row _ _ _ held.0 held.1 (omega (arith, size)) (omega (arith, size))
    (c.fold_rows-state.ensures j low)
