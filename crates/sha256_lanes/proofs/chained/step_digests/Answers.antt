use Rattle.std.proofs.Common.{List, ℕ, ◌+◌, ◌++◌, ◌∙◌, ap, arith, sym, take}
use Rattle.std.specs.Int.{to_be_bytes, w32}
use Rattle.sha256_lanes.specs.Begun.{HasBegun}
use Rattle.sha256_lanes.specs.Eight.{ended_block, head_bytes, lane_bytes}
use Rattle.sha256_lanes.specs.Sha256.{compress, sha256}
use Rattle.sha256_lanes.proofs.EightHashes.{digest_of_lane}
use Rattle.sha256_lanes.proofs.Windows.{first_words}
use Rattle.sha256_lanes.proofs.chained.step_digests.Goals as goal

pub returns : goal.returns
unfolding HasBegun
returns g c = λ m front j begun low.
    let n = g.row.N in
    let midstate = c.args.begun.now.midstate in
    let heads = c.stepped.result in
    let value : List ℕ = take n (lane_bytes c.args.values.now j) in
    let block : List ℕ = ended_block (head_bytes heads j ++ value) (86 + n) in
    let head = c.stepped.ensures.bytes j low begun.2 ∙ ap (λ l. l ++ to_be_bytes w32 c.args.number) (sym begun.1) in
    let first = first_words heads c.args.values.now n j c.requires.width ∙ c.stepped.ensures.words j low in
    let eight = c.eight_steps.ensures j low block (begun.4 block first) (c.last_window-words.ensures j low) in
    let twelve = c.four_steps.ensures j low _ block eight in
    let sixteen = c.four_steps-2.ensures j low _ block twelve in
    let is = c.compressed_from.ensures j low block sixteen ∙ ap (λ s. compress s block) begun.3 in
    digest_of_lane midstate m heads c.args.values.now _ n j begun.0 (omega arith) is
    ∙ ap (λ l. sha256 (m ++ (l ++ value))) head
