use Rattle.std.proofs.Common.{arith}
use Rattle.std.proofs.lemmas.Grind.{common_steps}
use Rattle.line_serve.proofs.Fronts.{on_moved, on_broken}
use Rattle.line_serve.proofs.write.flush.Goals as goal

pub returns : goal.returns
returns g c = record {
  cleared = grind (arith, common_steps);
  ok = rw (c.clear.ensures, ← c.as_slice.ensures) (on_moved _ _ _ _ c.put-written.ensures.bytes);
  err = rw (c.clear.ensures, ← c.as_slice.ensures) (on_broken _ _ _ _ c.put-written.ensures.bytes);
  cause = grind (arith, common_steps);
}
