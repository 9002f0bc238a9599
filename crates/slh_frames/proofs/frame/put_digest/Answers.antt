use Rattle.std.proofs.Common.{◌≡◌, ◌+◌, ◌++◌, length, drop, take, ◌∙◌, ap, sym, arith, append_assoc, length-append}
use Rattle.slh_core.proofs.Joins.{take_front}
use Rattle.slh_frames.proofs.frame.put_digest.Goals as goal

pub returns : goal.returns
returns c =
    let id = c.args.identifier.now in
    let digest = c.args.digest.now in
    let rest = drop (length digest) c.split_at_mut-front.result.1.now in
    let front : c.copy_from_slice.new.self ≡ id = c.copy_from_slice.ensures.after in
    let back : c.copy_from_slice-2.new.self ≡ digest = c.copy_from_slice-2.ensures.after in
    let whole = id ++ digest in
    let len : length whole ≡ 11 + length digest = omega (arith, length-append id digest) in
    rw (front, back) (ap (take (11 + length digest)) (sym (append_assoc id digest rest)) ∙ take_front (11 + length digest) whole rest len)
