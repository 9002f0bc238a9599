use Rattle.std.proofs.Common.{◌≡◌, length}
use Rattle.line_serve.specs.Lines.{parts}
use Rattle.slh_log.specs.Reading.{are_signatures}
use Rattle.slh_log.proofs.lines.are_signatures.Given as goal

-- what is left decides
abbrev pub invariant-each_line : goal.invariant-each_line
invariant-each_line l = are_signatures (parts l.bytes) ≡ are_signatures (parts l.rest)

abbrev pub decreases-each_line : goal.decreases-each_line
decreases-each_line l = length l.rest
