-- Names of the files of a log (C2SP, tlog-tiles).
use Rattle.std.specs.Prelude.{ℕ, ◌+◌, ◌/◌, ◌%◌, ◌==◌, List, [], ◌∷◌, ◌++◌, codes, decimal}
use Rattle.std.specs.Prelude.{if◌then◌else◌}
use Rattle.std.specs.List.{flat_map}

-- the three decimal digits of a number below 1000
abbrev pub three_digits : ℕ → List ℕ
three_digits n = (48 + n / 100) ∷ (48 + n / 10 % 10) ∷ (48 + n % 10) ∷ []

-- the last three digits of a number that isn't 0, with an `x` before them and a slash behind
abbrev pub group_text : ℕ → List ℕ
group_text n = if n == 0 then [] else codes "x" ++ three_digits (n % 1000) ++ codes "/"

-- the powers of 1000 at which groups of digits begin, but for the last one
abbrev pub group_powers : List ℕ
group_powers =
    1000000000000000000 ∷ 1000000000000000 ∷ 1000000000000 ∷ 1000000000 ∷ 1000000 ∷ 1000 ∷ []

-- an index below 1000^7 by groups of three digits, without those that have zeros alone on the left
abbrev pub index_text : ℕ → List ℕ
index_text index =
    flat_map (λ power. group_text (index / power)) group_powers ++ three_digits (index % 1000)

-- what a name ends with that isn't that of a full file
abbrev pub width_text : ℕ → List ℕ
width_text width = if width == 256 then [] else codes ".p/" ++ decimal width

-- the name of a tile
abbrev pub tile_path : ℕ → ℕ → ℕ → List ℕ
tile_path level index width =
    codes "tile/" ++ decimal level ++ codes "/" ++ index_text index ++ width_text width

-- the name of a bundle of entries
abbrev pub bundle_path : ℕ → ℕ → List ℕ
bundle_path index width = codes "tile/entries/" ++ index_text index ++ width_text width
