use Rattle.std.proofs.Common.{◌≡◌, length, take}
use Rattle.line_serve.specs.Fields.{contents}
use Rattle.slh_bytes.specs.Lines.{words_of}
use Rattle.slh_bytes.proofs.lines.words.Given as goal

-- the words so far
abbrev pub invariant-loop-part : goal.invariant-loop-part
invariant-loop-part l = record {
  counted : length l.all.items ≡ length l.yielded;
  front : contents l.all.items ≡ take (length l.yielded) (words_of l.text);
}
