use Rattle.std.proofs.Common.{◌≡◌, ◌*◌, ◌%◌, ◌^◌, [], append-nil, arith, drop, length-drop, refl}
use Rattle.std.proofs.lemmas.List.{drop_all}
use Rattle.sha256_lanes.proofs.blocks.put_length.Goals as goal
use borrow.Rule.Slice.PartMut.{post_of}

pub returns : goal.returns
returns c =
    let none : post_of 56 8 c.args.block.now ≡ [] = drop_all 8 (drop 56 c.args.block.now) (omega (arith, length-drop 56 c.args.block.now)) in
    let bits : c.args.total * 8 % 2 ^ 64 ≡ 8 * c.args.total % 2 ^ 64 = omega arith in
    rw (none, c.copy_from_slice.ensures.after, append-nil, c.to_be_bytes.ensures, bits) refl
