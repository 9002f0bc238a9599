use Rattle.std.proofs.Common.{◌≡◌, ◌/◌, ◌*◌, ◌≤◌, length, arith}
use Rattle.std.proofs.lemmas.Grind.{common_steps}
use Rattle.std.proofs.Math.Nat.{div-mul-le_self}
use Rattle.hybrid_array.proofs.ChunkLemmas.{taken-whole}
use Rattle.hybrid_array.proofs.array.Array.slice_as_chunks.Goals as goal

pub overflow_mul-buf : goal.overflow_mul-buf
overflow_mul-buf g c = rw (c.USIZE.ensures, c.USIZE-2.ensures) (omega (arith, div-mul-le_self (length c.args.buf.now) g.U.ArraySize.USIZE))

pub split_at-requires : goal.split_at-requires
split_at-requires g c = rw (c.USIZE.ensures, c.USIZE-2.ensures) (div-mul-le_self (length c.args.buf.now) g.U.ArraySize.USIZE)

pub invariant_of-chunks : goal.invariant_of-chunks
invariant_of-chunks g c = rw (c.split_at.ensures.front, c.USIZE.ensures, c.USIZE-2.ensures) (taken-whole g.U.ArraySize.USIZE c.args.buf.now c.requires)

pub returns : goal.returns
returns g c = grind (arith, common_steps)
