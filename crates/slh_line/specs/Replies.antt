-- The reply to a line `SET command fields..`, by what a program answers for a set.
use Rattle.std.specs.Prelude.{◌==◌, ℕ, List, [], length, Option, None, Some, Result, Ok, Err}
use Rattle.std.specs.Prelude.{if◌then◌else◌}
use Rattle.line_serve.specs.Fields.{field_at, fields}
use Rattle.slh_core.specs.Parameters.{Scheme}
use Rattle.slh_line.specs.LineErrors.{error_text}
use Rattle.slh_sets.specs.Sets.{name_of, scheme_for, set_named}
use Rattle.slh_line.specs.declared.line_error.LineError.{LineError}
use Rattle.slh_line.specs.declared.line_error.LineError.TheVariants as line_error
use Rattle.slh_sets.specs.declared.set.Set.{Set}

-- what a program answers to the fields of a line, for a set with its name
abbrev pub Answers : Type 0
Answers = Scheme → List ℕ → List (List ℕ) → Result (List ℕ) LineError

abbrev pub text_of : Result (List ℕ) LineError → List ℕ
text_of (Ok text) = text
text_of (Err found) = error_text found

abbrev pub answer_for : Answers → Option Set → List (List ℕ) → List ℕ
answer_for answers None fields = error_text line_error.Set
answer_for answers (Some set) fields = text_of (answers (scheme_for set) (name_of set) fields)

-- a line without fields has no reply
abbrev pub reply_to_fields : Answers → List (List ℕ) → List ℕ
reply_to_fields answers fields =
    if length fields == 0 then [] else answer_for answers (set_named (field_at fields 0)) fields

abbrev pub reply_by : Answers → List ℕ → List ℕ
reply_by answers line = reply_to_fields answers (fields line)
