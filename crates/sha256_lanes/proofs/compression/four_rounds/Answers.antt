use Rattle.std.proofs.Common.{refl, ap, arith, ◌∙◌, ◌+◌}
use Rattle.sha256_lanes.specs.Rounds.{rounds_until}
use Rattle.sha256_lanes.proofs.Schedule.{round_done}
use Rattle.sha256_lanes.proofs.compression.four_rounds.Goals as goal

pub returns : goal.returns
returns g c j l = λ h b done words.
    let t = c.args.t in
    let at = rounds_until h b in
    let one = round_done b h _ t _ _ _ (omega arith) done refl words.0 (c.round-v.ensures j l) in
    let two = round_done b h _ (t + 1) _ _ _ (omega arith) one refl words.1 (c.round-v-2.ensures j l) in
    let three = round_done b h _ (t + 2) _ _ _ (omega arith) (two ∙ ap at (omega arith)) refl words.2 (c.round-v-3.ensures j l) in
    round_done b h _ (t + 3) _ _ _ (omega arith) (three ∙ ap at (omega arith)) refl words.3 (c.round.ensures j l) ∙ ap at (omega arith)
