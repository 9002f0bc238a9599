use Rattle.std.proofs.Common.{length, arith}
use Rattle.std.proofs.Math.Nat.{div-mul-le_self}
use Rattle.hybrid_array.proofs.lending.chunks_and_rest_mut.Goals as goal

pub overflow_mul-count : goal.overflow_mul-count
overflow_mul-count g c = rw (c.USIZE.ensures, c.USIZE-2.ensures) (omega (arith, div-mul-le_self (length c.args.slice.now) g.U.ArraySize.USIZE))

pub split_at_mut-requires : goal.split_at_mut-requires
split_at_mut-requires g c = rw (c.USIZE.ensures, c.USIZE-2.ensures) (div-mul-le_self (length c.args.slice.now) g.U.ArraySize.USIZE)
