-- Lines of a reply: a word, a number or bytes, and a line feed.
use Rattle.std.specs.Prelude.{ℕ, List, ◌++◌, codes, decimal}
use Rattle.hex.specs.Hex.{encode_lower}

-- the number without leading zeros
abbrev pub number_line : List ℕ → ℕ → List ℕ
number_line word number = word ++ decimal number ++ codes "\n"

-- the bytes as hexadecimal digits of lower case
abbrev pub hex_line : List ℕ → List ℕ → List ℕ
hex_line word bytes = word ++ encode_lower bytes ++ codes "\n"
