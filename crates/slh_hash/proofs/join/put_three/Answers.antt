use Rattle.std.proofs.Common.{refl, append_assoc}
use Rattle.std.proofs.Math.Seq.{take-append-add}
use Rattle.slh_hash.proofs.join.put_three.Goals as goal

pub returns-clause-bytes : goal.returns-clause-bytes
returns-clause-bytes c =
    rw (c.copy_from_slice.ensures.after, take-append-add, c.put_two.ensures.bytes, append_assoc) refl
