use Rattle.std.proofs.Common.{◌%◌, ◌-◌, ◌∙◌, arith, length}
use Rattle.std.proofs.lemmas.Slice.{take-put_mid_below}
use Rattle.sha512_lanes.proofs.Absorbing.{StandsFor-IsAbsorbed, StandsFor_from, StandsFor_total}
use Rattle.sha512_lanes.proofs.hash.Hash512.clear_rest.Goals as goal

pub returns-clause-stands : goal.returns-clause-stands
returns-clause-stands c = λ m held.
    let count = StandsFor_total c.args.self.now m held in
    let absorbed = StandsFor-IsAbsorbed c.args.self.now m held in
    let at = c.value.result % 128 in
    let kept = take-put_mid_below at (128 - at) c.args.self.now.block c.fill.new.self (length m % 128) (omega arith) (omega arith) in
    StandsFor_from _ m count (absorbed.0, kept ∙ absorbed.1)
