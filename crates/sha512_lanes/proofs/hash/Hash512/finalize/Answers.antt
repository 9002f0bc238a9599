use Rattle.std.proofs.Common.{◌≡◌, ◌+◌, ◌*◌, ◌%◌, ◌^◌, ◌∙◌, ◌-◌, ◌∷◌, arith, length, replicate, take}
use Rattle.sha2.proofs.Absorbing512.{padding-take}
use Rattle.sha512_lanes.proofs.Absorbing.{StandsFor_padded, StandsFor_total}
use Rattle.sha512_lanes.proofs.hash.Hash512.finalize.Goals as goal

pub returns : goal.returns
returns c = λ m held.
    let count = StandsFor_total c.args.self m held in
    let z = (239 - length m % 128) % 128 in
    let zeros : (239 - c.value-total.result % 128) % 128 ≡ z = omega arith in
    let bits : c.value-total.result * 8 % 2 ^ 128 ≡ length m * 8 % 2 ^ 128 = omega arith in
    let front : take ((239 - c.value-total.result % 128) % 128 + 1) c.one_and_zeros.result ≡ 0x80 ∷ replicate z 0 =
    rw (zeros, c.one_and_zeros.ensures) (padding-take 0x80 0 z (omega arith)) in
    c.word_bytes.ensures
    ∙ StandsFor_padded c.update_each-2.new.self m _ _ (c.update_each-2.ensures _ (c.update_each.ensures m held)) front (rw bits at c.to_be_bytes.ensures)
