use Rattle.std.proofs.Common.{refl, ap, arith, ◌∙◌, ◌∷◌, ◌+◌, [], List, ℕ, ◌++◌, drop}
use Rattle.sha256_lanes.specs.Lanes.{window}
use Rattle.sha256_lanes.proofs.Schedule.{IsBefore_at, step_done}
use Rattle.sha256_lanes.proofs.compression.four_steps.Goals as goal

pub returns : goal.returns
returns g c j l = λ h b before.
    let t = c.args.t in
    let w = window (λ x. g.W.Word.lane x j) c.args.w in
    let push : List ℕ → ℕ → List ℕ = λ u x. drop 1 u ++ x ∷ [] in
    let a = push w (g.W.Word.lane c.later_word-w16.result j) in
    let d = push a (g.W.Word.lane c.later_word-w17.result j) in
    let e = push d (g.W.Word.lane c.later_word-w18.result j) in
    let f = push e (g.W.Word.lane c.later_word-w19.result j) in
    let one = step_done h b _ w t _ _ _ a (omega arith) before refl refl (c.round-v.ensures j l) (ap (push w) (c.later_word-w16.ensures j l)) in
    let two = step_done h b _ a (t + 1) _ _ _ d (omega arith) one refl refl (c.round-v-2.ensures j l) (ap (push a) (c.later_word-w17.ensures j l)) in
    let two_at = IsBefore_at h b _ d _ (t + 2) (omega arith) two in
    let three = step_done h b _ d (t + 2) _ _ _ e (omega arith) two_at refl refl (c.round-v-3.ensures j l) (ap (push d) (c.later_word-w18.ensures j l)) in
    let three_at = IsBefore_at h b _ e _ (t + 3) (omega arith) three in
    let four = step_done h b _ e (t + 3) _ _ _ f (omega arith) three_at refl refl (c.round-v-4.ensures j l) (ap (push e) (c.later_word-w19.ensures j l)) in
    let four_at = IsBefore_at h b _ f _ (t + 4) (omega arith) four in (four_at.0, c.moved.ensures j l ∙ four_at.1)
