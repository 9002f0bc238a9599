use Rattle.std.proofs.Common.{◌≡◌, length}
use Rattle.line_serve.specs.Lines.{parts}
use Rattle.slh_log.specs.Reading.{own_signature}
use Rattle.slh_log.proofs.signed.find_signature.Given as goal

-- no line so far is one of the key
abbrev pub invariant-each_line : goal.invariant-each_line
invariant-each_line l = record {
  size : length l.out ≡ length l.fn.out;
  left : own_signature (length l.fn.out) l.name l.id (parts l.bytes)
      ≡ own_signature (length l.fn.out) l.name l.id (parts l.rest);
}

abbrev pub decreases-each_line : goal.decreases-each_line
decreases-each_line l = length l.rest
