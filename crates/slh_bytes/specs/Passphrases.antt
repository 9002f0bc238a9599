-- The passphrase of a file: its first line. How many iterations a key is derived by.
use Rattle.std.specs.Prelude.{◌==◌, ◌-◌, ℕ, nat_lt, List, length, take, drop, codes}
use Rattle.std.specs.Prelude.{Option, None, Some, Result, Ok, Err, if◌then◌else◌, ◌||◌}
use Rattle.std.specs.Str.{bytes_eq}
use Rattle.encrypted_key.specs.Reading.{max_iterations}
use Rattle.slh_bytes.specs.Places.{cut_at}
use Rattle.slh_bytes.specs.declared.passphrase.PassphraseError.{PassphraseError}
use Rattle.slh_bytes.specs.declared.passphrase.PassphraseError.TheVariants.{Empty, TooLong}

-- a line that ends with a line feed, without the carriage return that belongs to it
abbrev pub without_return : List ℕ → List ℕ
without_return line =
    if bytes_eq (drop (length line - 1) line) (codes "\r") then take (length line - 1) line else line

abbrev pub line_of : List ℕ → Option (List ℕ × List ℕ) → List ℕ
line_of text None = text
line_of text (Some parts) = without_return parts.0

-- the first line, without its end
abbrev pub first_line : List ℕ → List ℕ
first_line text = line_of text (cut_at (codes "\n") text)

-- a line of 1 to 1024 bytes
abbrev pub sized_passphrase : List ℕ → Result (List ℕ) PassphraseError
sized_passphrase line =
    if length line == 0 then Err Empty else if nat_lt 1024 (length line) then Err TooLong else Ok line

-- the passphrase of a text, want of memory aside
abbrev pub passphrase_in : List ℕ → Result (List ℕ) PassphraseError
passphrase_in text = sized_passphrase (first_line text)

-- a count from 1 to the most that a file may ask for
abbrev pub iterations_of : ℕ → Option ℕ
iterations_of n = if n == 0 || nat_lt max_iterations n then None else Some n
