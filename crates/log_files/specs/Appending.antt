-- The files that an append adds to a log (C2SP, tlog-tiles).
use Rattle.std.specs.Prelude.{ℕ, zero, suc, ◌+◌, ◌-◌, ◌/◌, ◌%◌, ◌==◌, List, [], ◌∷◌, ◌++◌}
use Rattle.std.specs.Prelude.{string_bytes, if◌then◌else◌}
use Rattle.log_tiles.specs.Names.{bundle_path, tile_path}
use Rattle.log_tiles.specs.Tiles.{hash_count, last_bytes}
use Rattle.merkle_tree.specs.Hashes.{HashFunction}
use Rattle.log_files.specs.declared.appending.LogFile.{LogFile}

-- a file by its name below the log's folder
pub record Named : Type 0 where
  pub name : List ℕ
  pub bytes : List ℕ

abbrev pub named : LogFile → Named
named file = record { name = string_bytes file.name; bytes = file.bytes.items }

-- the file of the bundle that ends with the last of so many entries
abbrev pub bundle_file : ℕ → List ℕ → Named
bundle_file count bytes =
    record { name = bundle_path ((count - 1) / 256) ((count - 1) % 256 + 1); bytes = bytes }

-- the file of the last tile of a level over so many digests q, if it has a hash
abbrev pub tile_files : HashFunction → ℕ → List (List ℕ) → ℕ → List Named
tile_files H size q level =
    let count = hash_count level size in
    if count == 0
    then []
    else record {
      name = tile_path level ((count - 1) / 256) ((count - 1) % 256 + 1);
      bytes = last_bytes H level q;
    } ∷ []

-- likewise if it isn't full
abbrev pub partial_files : HashFunction → ℕ → List (List ℕ) → ℕ → List Named
partial_files H size q level =
    if hash_count level size % 256 == 0 then [] else tile_files H size q level

-- the files of the lowest so many levels
unfoldable pub of_levels : (ℕ → List Named) → ℕ → List Named
of_levels files zero = []
of_levels files (suc level) = of_levels files level ++ files level

-- the bytes of a bundle that the last of so many entries may have made full: the file of a full
-- one, and the bytes of one that isn't
abbrev pub full_bundle : ℕ → List ℕ → List Named
full_bundle count bytes = if count % 256 == 0 then bundle_file count bytes ∷ [] else []

abbrev pub open_bundle : ℕ → List ℕ → List ℕ
open_bundle count bytes = if count % 256 == 0 then [] else bytes

-- the file of the last bundle where it isn't full
abbrev pub partial_bundle : ℕ → List ℕ → List Named
partial_bundle count bytes = if count % 256 == 0 then [] else bundle_file count bytes ∷ []
