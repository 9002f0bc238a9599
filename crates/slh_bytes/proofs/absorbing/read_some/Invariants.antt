use Rattle.std.proofs.Common.{◌≡◌, length}
use Rattle.std.specs.Io.KnownBytes.{Keeps}
use Rattle.slh_bytes.proofs.absorbing.read_some.Given as goal

abbrev pub invariant-loop : goal.invariant-loop
invariant-loop g l = record {
  long : length l.buf ≡ length l.initial.buf;
  kept : Keeps (g.R.Input.remaining l.initial.reader) (g.R.Input.remaining l.reader);
}
