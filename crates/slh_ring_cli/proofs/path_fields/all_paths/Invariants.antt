use Rattle.std.proofs.Common.{◌≡◌, drop, length}
use Rattle.line_serve.specs.Fields.{contents}
use Rattle.slh_ring_cli.specs.PathFields.{all_paths}
use Rattle.slh_ring_cli.proofs.Paths.{read_on}
use Rattle.slh_ring_cli.proofs.path_fields.all_paths.Given as goal

-- the paths of all are those that are read, and those of the fields that are left
abbrev pub invariant-loop-field : goal.invariant-loop-field
invariant-loop-field l = record {
  read : read_on l.paths.items (drop l.field-index l.fields) ≡ all_paths (contents l.fields);
  count : length l.paths.items ≡ l.field-index;
}
