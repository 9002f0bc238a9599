use Rattle.std.proofs.Common.{◌∙◌, List, ℕ, ap}
use Rattle.sha256_lanes.specs.Sha256.{compress}
use Rattle.sha256_lanes.proofs.single.compress_one.Goals as goal

pub returns : goal.returns
returns c =
    let block : List ℕ = c.args.block.now in
    c.sums-after.ensures block (c.rounds.ensures block c.window_of.ensures)
    ∙ ap (λ (s : List ℕ). compress s block) c.named-before.ensures
