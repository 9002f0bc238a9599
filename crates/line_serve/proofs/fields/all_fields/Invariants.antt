use Rattle.std.proofs.Common.{◌≡◌, ◌≤◌, ◌-◌, ◌++◌, drop, filter, length, not}
use Rattle.std.specs.Bool.{◌==◌}
use Rattle.std.specs.List.{slice_split}
use Rattle.line_serve.specs.Fields.{contents, fields, space}
use Rattle.line_serve.proofs.fields.all_fields.Given as goal

-- the fields so far, and then those of what is left
abbrev pub invariant-loop-at : goal.invariant-loop-at
invariant-loop-at l = record {
  within : l.done ≤ length l.text;
  cut : contents l.all.items ++ filter (λ part. not (length part == 0)) (slice_split (λ x. x == space) (drop l.done l.text)) ≡ fields l.line;
}

abbrev pub decreases-loop-at : goal.decreases-loop-at
decreases-loop-at l = length l.text - l.done
