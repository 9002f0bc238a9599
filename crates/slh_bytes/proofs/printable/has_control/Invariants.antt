use Rattle.std.proofs.Common.{◌≡◌}
use Rattle.std.specs.Str.{chars, IsUtf8}
use Rattle.slh_bytes.specs.Shown.{has_control as spec_has_control}
use Rattle.slh_bytes.proofs.printable.has_control.Given as goal

abbrev pub invariant-loop-c : goal.invariant-loop-c
invariant-loop-c l =
    IsUtf8 l.c-iterator.rest.now
    × (spec_has_control (chars l.c-iterator.rest.now) ≡ spec_has_control (chars l.text))
