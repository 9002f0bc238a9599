use Rattle.std.proofs.Common.{◌≡◌, ◌+◌, ◌%◌, ◌^◌, ◌∙◌, ℕ, ap, arith, refl, slice_index}
use Rattle.sha512_lanes.specs.Batches.{word_in}
use Rattle.sha2.specs.Sha512.{add64, round_constants, rounds, schedule}
use Rattle.sha512_lanes.proofs.Fours.{sum_constant}
use Rattle.sha512_lanes.proofs.Schedule.{round_done}
use Rattle.sha512_lanes.proofs.single.four_rounds.Goals as goal

pub returns : goal.returns
returns c = λ h b done words.
    let t = c.args.t in
    let at = rounds h (schedule b 64) in
    let k : ℕ → ℕ = slice_index round_constants in
    let w : ℕ → ℕ = slice_index (schedule b 64) in
    let keyed : (x y z : ℕ) → x ≡ add64 y (z % 2 ^ 64) → (u : ℕ) → y ≡ u → x ≡ add64 u z
    = λ x y z made u is. made ∙ ap (λ (v : ℕ). add64 v (z % 2 ^ 64)) is ∙ sum_constant u z in
    let key0 = keyed _ _ (k t) (c.sum.ensures 0 (omega arith)) (w t) words.0 in
    let key1 = keyed _ _ (k (t + 1)) (c.sum.ensures 1 (omega arith)) (w (t + 1)) words.1 in
    let key2 = keyed _ _ (k (t + 2)) (c.sum.ensures 2 (omega arith)) (w (t + 2)) words.2 in
    let key3 = keyed _ _ (k (t + 3)) (c.sum.ensures 3 (omega arith)) (w (t + 3)) words.3 in
    let one = round_done b h _ t _ _ _ (omega arith) done refl refl (c.keyed_round-v.ensures (k t) (w t) key0) in
    let two = round_done b h _ (t + 1) _ _ _ (omega arith) one refl refl (c.keyed_round-v-2.ensures (k (t + 1)) (w (t + 1)) key1) in
    let three = round_done b h _ (t + 2) _ _ _ (omega arith) (two ∙ ap at (omega arith)) refl refl (c.keyed_round-v-3.ensures (k (t + 2)) (w (t + 2)) key2) in
    round_done b h _ (t + 3) _ _ _ (omega arith) (three ∙ ap at (omega arith)) refl refl (c.keyed_round.ensures (k (t + 3)) (w (t + 3)) key3) ∙ ap at (omega arith)
