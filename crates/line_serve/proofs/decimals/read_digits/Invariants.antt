use Rattle.std.proofs.Common.{◌≡◌, ◌+◌, ◌≤◌, drop}
use Rattle.line_serve.specs.Decimals.{read_digits}
use Rattle.line_serve.proofs.decimals.read_digits.Given as goal

-- the digits that are left go on from the number so far
abbrev pub invariant-loop-byte : goal.invariant-loop-byte
invariant-loop-byte l =
    record {
      read : read_digits (l.last + 1) l.number (drop l.byte-index l.text) ≡ read_digits (l.last + 1) 0 l.text;
      within : l.number ≤ l.last;
    }
