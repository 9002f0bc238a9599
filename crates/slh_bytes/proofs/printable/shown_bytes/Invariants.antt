use Rattle.std.proofs.Common.{◌≡◌, map, string_bytes, take}
use Rattle.slh_bytes.specs.Shown.{shown_byte}
use Rattle.slh_bytes.proofs.printable.shown_bytes.Given as goal

abbrev pub invariant-loop-byte : goal.invariant-loop-byte
invariant-loop-byte l = string_bytes l.shown ≡ map shown_byte (take l.byte-index l.name)
