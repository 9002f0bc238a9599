use Rattle.std.proofs.Common.{◌≡◌, ◌++◌}
use Rattle.slh_bytes.specs.Writing.{first_lines}
use Rattle.slh_bytes.proofs.writing.push_lines.Given as goal

-- the lines so far
abbrev pub invariant-loop-i : goal.invariant-loop-i
invariant-loop-i l = l.text ≡ l.fn.text ++ first_lines l.i l.bytes
