-- The replies to lines that are no job.
use Rattle.std.specs.Prelude.{ℕ, List, [], codes}
use Rattle.slh_line.specs.declared.line_error.LineError.{LineError}
use Rattle.slh_line.specs.declared.line_error.LineError.TheVariants as line_error

abbrev pub error_text : LineError → List ℕ
error_text line_error.Set = codes "error set\n"
error_text line_error.Command = codes "error command\n"
error_text line_error.Fields = codes "error fields\n"
error_text line_error.Hex = codes "error hex\n"
error_text line_error.Length = codes "error length\n"
error_text line_error.Randomizer = codes "error randomizer\n"
error_text line_error.Memory = []
