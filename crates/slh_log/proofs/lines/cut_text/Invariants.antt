use Rattle.std.proofs.Common.{◌≡◌, ◌+◌, ◌-◌, ◌≤◌, length}
use Rattle.line_serve.specs.Lines.{parts}
use Rattle.slh_log.specs.Reading.{after_text, text_len}
use Rattle.slh_log.proofs.lines.cut_text.Given as goal

-- no line so far is empty
abbrev pub invariant-each_line : goal.invariant-each_line
invariant-each_line l = record {
  within : length l.rest ≤ length l.bytes;
  text : text_len (parts l.bytes) + length l.rest ≡ length l.bytes + text_len (parts l.rest);
  after : after_text (parts l.bytes) ≡ after_text (parts l.rest);
}

abbrev pub decreases-each_line : goal.decreases-each_line
decreases-each_line l = length l.rest
