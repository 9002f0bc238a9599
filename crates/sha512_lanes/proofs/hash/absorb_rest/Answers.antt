use Rattle.std.proofs.Common.{length, refl, sym}
use Rattle.std.proofs.lemmas.List.{take_at}
use Rattle.sha512_lanes.proofs.Absorbing.{IsAbsorbed_whole}
use Rattle.sha512_lanes.proofs.hash.absorb_rest.Goals as goal

pub returns : goal.returns
returns g c = λ start m held even.
    let parts = c.split_at.ensures in
    let rest = c.split_at.result.1.now in
    IsAbsorbed_whole start c.args.state.now c.args.block.now m c.args.input.now c.split_at.result.0.now rest _ _ held even
    (sym parts.by_index.0) parts.front_len c.take_blocks.ensures (rw c.copy_from_slice.ensures.after (take_at rest _ (length rest) refl))
