use Rattle.std.proofs.Common.{length, arith}
use Rattle.std.proofs.lemmas.Grind.{common_steps}
use Rattle.std.proofs.Math.Nat.{div-mul-le_self}
use Rattle.hybrid_array.proofs.chunks.Chunks.get.Goals as goal

pub chunk-requires-clause-whole : goal.chunk-requires-clause-whole
chunk-requires-clause-whole g c = rw (c.USIZE.ensures, c.USIZE-2.ensures) (div-mul-le_self (length c.self.inside.items.now) g.U.ArraySize.USIZE)

pub chunk-requires-clause-below : goal.chunk-requires-clause-below
chunk-requires-clause-below g c = omega arith

pub returns-then-i-count-clause-some : goal.returns-then-i-count-clause-some
returns-then-i-count-clause-some g c = grind (arith, common_steps)

pub returns-clause-some : goal.returns-clause-some
returns-clause-some g c = grind (arith, common_steps)
