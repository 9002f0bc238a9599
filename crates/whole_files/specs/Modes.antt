-- The bits of a mode.
use Rattle.std.specs.Prelude.{ℕ}
use Rattle.whole_files.specs.declared.file.Mode.{Mode}
use Rattle.whole_files.specs.declared.file.Mode.TheVariants.{Masked, Exact}

-- the bits of a mode before the mask: read and write for all where the mask is left to the user
abbrev pub bits_of : Mode → ℕ
bits_of Masked = 0o666
bits_of (Exact bits) = bits

-- the mode of a secret: read and write for its owner alone
abbrev pub secret_mode : Mode
secret_mode = Exact 0o600
