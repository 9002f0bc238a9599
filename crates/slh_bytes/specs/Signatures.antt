-- The signature that a file has.
use Rattle.std.specs.Prelude.{◌==◌, ℕ, List, length, codes, unwrap_or, if◌then◌else◌}
use Rattle.std.specs.Prelude.{Option, None}
use Rattle.std.specs.Str.{bytes_eq}
use Rattle.line_serve.specs.Fields.{hex_value}
use Rattle.slh_sets.specs.Sets.{scheme_for}
use Rattle.slh_sets.specs.declared.set.Set.{Set}
use Rattle.slh_trees.specs.Checking.{signature_size}
use Rattle.slh_bytes.specs.Lines.{squeezed}

-- the bytes that digits stand for. A dash, which is the field of no bytes on a line, has no digits
abbrev pub digits_value : List ℕ → Option (List ℕ)
digits_value text = if bytes_eq text (codes "-") then None else hex_value text

-- the file's bytes, or those that its hexadecimal digits stand for
abbrev pub signature_in : Set → List ℕ → List ℕ
signature_in set file =
    if length file == signature_size (scheme_for set) then file
    else unwrap_or (digits_value (squeezed file)) file
