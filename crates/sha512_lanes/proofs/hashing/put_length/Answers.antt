use Rattle.std.proofs.Common.{◌≡◌, [], append-nil, arith, drop, length-drop, refl}
use Rattle.std.proofs.lemmas.List.{drop_all}
use Rattle.sha512_lanes.proofs.hashing.put_length.Goals as goal
use borrow.Rule.Slice.PartMut.{post_of}

pub returns : goal.returns
returns c =
    let none : post_of 112 16 c.args.block.now ≡ [] = drop_all 16 (drop 112 c.args.block.now) (omega (arith, length-drop 112 c.args.block.now)) in
    rw (none, c.copy_from_slice.ensures.after, append-nil, c.to_be_bytes.ensures, c.from.ensures) refl
