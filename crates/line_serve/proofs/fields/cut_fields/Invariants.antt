use Rattle.std.proofs.Common.{◌≡◌, ◌≤◌, length, take}
use Rattle.line_serve.specs.Fields.{contents, fields}
use Rattle.line_serve.proofs.fields.cut_fields.Given as goal

-- the fields so far stand at the front
abbrev pub invariant-loop-part : goal.invariant-loop-part
invariant-loop-part l = record {
  within : l.count ≤ length l.out;
  counted : l.count ≡ length l.yielded;
  front : contents (take l.count l.out) ≡ take l.count (fields l.line);
}
