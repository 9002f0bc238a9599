use Rattle.std.proofs.Common.{List, ℕ, ◌++◌, ◌∙◌, ap, sym, take}
use Rattle.std.specs.Int.{to_be_bytes, w32}
use Rattle.sha256_lanes.specs.Begun.{HasBegun}
use Rattle.sha256_lanes.specs.Eight.{lane_bytes}
use Rattle.sha256_lanes.specs.Sha256.{sha256}
use Rattle.sha256_lanes.proofs.eight.Begun.finalize_words.Goals as goal

pub returns-in_default : goal.returns-in_default
unfolding HasBegun
returns-in_default c = λ m front j begun low.
    let value : List ℕ = take c.args.n (lane_bytes c.args.values.now j) in
    c.finalize_words.ensures m j begun.0 low
    ∙ ap (λ l. sha256 (m ++ (l ++ value)))
    (c.stepped.ensures.bytes j low begun.2 ∙ ap (λ l. l ++ to_be_bytes w32 c.args.number) (sym begun.1))
