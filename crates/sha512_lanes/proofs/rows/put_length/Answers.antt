use Rattle.std.proofs.Common.{◌≡◌, ◌-◌, arith, length, refl, ◌∙◌}
use Rattle.std.proofs.lemmas.Slice.{take-put_mid}
use Rattle.sha512_lanes.proofs.rows.put_length.Goals as goal

pub returns : goal.returns
returns c =
    let end = c.args.end in
    let written = c.copy_from_slice.new.self in
    let sixteen : length written ≡ 16 = rw c.copy_from_slice.ensures.after (rw c.to_be_bytes.ensures refl) in
    take-put_mid (end - 16) (end - (end - 16)) c.args.padded.now written end (omega (arith, sixteen, c.requires.low)) (omega (arith, c.requires.inside, c.told-padded))
    ∙ rw (c.copy_from_slice.ensures.after, c.to_be_bytes.ensures, c.from.ensures) refl
