use Rattle.std.proofs.Common.{◌≡◌, drop}
use Rattle.line_serve.specs.Fields.{contents}
use Rattle.slh_bytes.specs.Lines.{has_line as spec_has_line}
use Rattle.slh_bytes.proofs.lines.has_line.Given as goal

-- what was looked at has none
abbrev pub invariant-loop-at : goal.invariant-loop-at
invariant-loop-at l =
    spec_has_line l.kind (contents l.words) ≡ spec_has_line l.kind (drop l.at (contents l.words))
