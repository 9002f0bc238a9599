use Rattle.std.proofs.Common.{◌%◌, arith, refl, sym}
use Rattle.sha512_lanes.proofs.Absorbing.{StandsFor_even, StandsFor_full, StandsFor_short}
use Rattle.sha512_lanes.proofs.hash.Hash512.absorb.Goals as goal

pub returns-then-held-eq0 : goal.returns-then-held-eq0
returns-then-held-eq0 g c = λ m held.
    StandsFor_even c.args.self.now _ m c.args.input.now held (omega arith) c.add.ensures c.absorb_rest.ensures

pub returns-then-input-room : goal.returns-then-input-room
returns-then-input-room g c = λ m held.
    StandsFor_short c.args.self.now _ m c.args.input.now _ (c.value.result % 128) _ held (omega arith) (omega arith) (omega arith) c.copy_from_slice.ensures.after refl refl c.add.ensures

pub returns : goal.returns
returns g c = λ m held.
    let parts = c.split_at.ensures in
    StandsFor_full c.args.self.now _ m c.args.input.now c.split_at.result.0.now c.split_at.result.1.now
    c.copy_from_slice-2.new.self _ _ (c.value.result % 128) _ held (omega arith) (omega arith) (omega arith) (omega arith)
    (sym parts.by_index.0) parts.front_len c.copy_from_slice-2.ensures.after refl c.compress.ensures c.add.ensures c.absorb_rest-2.ensures
