use Rattle.std.proofs.Common.{List, ℕ, ◌+◌, ◌++◌, ◌∙◌, ap, take}
use Rattle.sha256_lanes.specs.Eight.{ended_block, head_bytes, lane_bytes, word_in}
use Rattle.sha256_lanes.specs.Lanes.{variables}
use Rattle.sha256_lanes.specs.Sha256.{compress}
use Rattle.sha256_lanes.proofs.Schedule.{block_words_are, rounds_until_none}
use Rattle.sha256_lanes.proofs.eight.digest_words.Goals as goal

pub returns : goal.returns
returns g c j h =
    let n = g.row.N in
    let block : List ℕ = ended_block (head_bytes c.args.heads.now j ++ take n (lane_bytes c.args.values.now j)) (86 + n) in
    let start : List ℕ = variables (λ lanes. word_in lanes j) c.spread-state.result in
    let four = c.four_steps.ensures j h start block (rounds_until_none _ block, c.last_window-words.ensures j h ∙ block_words_are block) in
    let eight = c.four_steps-2.ensures j h start block four in
    let twelve = c.four_steps-3.ensures j h start block eight in
    let sixteen = c.four_steps-4.ensures j h start block twelve in
    c.compressed_from.ensures j h block sixteen ∙ ap (λ (s : List ℕ). compress s block) (c.spread-state.ensures j h)
