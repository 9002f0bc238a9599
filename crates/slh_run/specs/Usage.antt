-- What is told where the words aren't those of the program.
use Rattle.std.specs.Prelude.{◌≡◌, ◌⊎◌, ℕ, List, Option, codes}
use Rattle.std.specs.Io.KnownBytes.{Appends}
use Rattle.line_serve.specs.Engine.{TakesFront}

abbrev pub usage_text : List ℕ
usage_text = codes "usage: slh_cli [bench SET NUMBER COUNT]\n"

-- the usage text was written: whole with status 2, and a front of it with status 4
abbrev pub TellsUsage : Option (List ℕ) → Option (List ℕ) → ℕ → Type 0
TellsUsage taken taken' status =
    ((status ≡ 2) × Appends taken taken' usage_text)
    ⊎ ((status ≡ 4) × TakesFront taken taken' usage_text)
