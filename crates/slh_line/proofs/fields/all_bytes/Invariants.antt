use Rattle.std.proofs.Common.{◌≡◌, drop, length}
use Rattle.line_serve.specs.Fields.{contents}
use Rattle.slh_line.specs.Readings.{all_bytes}
use Rattle.slh_line.proofs.ByteFields.{read_on}
use Rattle.slh_line.proofs.fields.all_bytes.Given as goal

-- the bytes of all are those that are read, and those of the fields that are left
abbrev pub invariant-loop-field : goal.invariant-loop-field
invariant-loop-field l = record {
  read : read_on l.all (drop l.field-index l.fields) ≡ all_bytes (contents l.fields);
  count : length l.all ≡ l.field-index;
}
