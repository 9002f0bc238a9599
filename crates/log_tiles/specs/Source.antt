-- Which tile a node is made of, what its hashes are, and which one an error names.
use Rattle.std.specs.Prelude.{◌≡◌, ℕ, ◌+◌, ◌*◌, ◌/◌, ◌%◌, ◌^◌, ◌<◌, ◌≤◌, List, map}
use Rattle.std.specs.Prelude.{Bool, false, nat_lt, if◌then◌else◌}
use Rattle.std.specs.List.{range_with_len}
use Rattle.merkle_tree.specs.Hashes.{HashFunction}
use Rattle.log_tiles.specs.declared.names.Tile as tile
use Rattle.log_tiles.specs.declared.proving.TileError.{TileError}
use Rattle.log_tiles.specs.declared.proving.TileError.TheVariants.{Differs, Memory, Range, Tile}
use Rattle.log_tiles.specs.Shape.{IsPieceOf}
use Rattle.log_tiles.specs.Tiles.{hash_count, tile_hashes}

-- the tile with an index on a level, in a log of so many entries that has it: full, or the last one
abbrev pub tile_with : ℕ → ℕ → ℕ → tile.Tile
tile_with size level index =
    let count = hash_count level size in
    record {
      level = level;
      index = index;
      width = if nat_lt index (count / 256) then 256 else count % 256;
    }

-- the tile that has the hashes under the root over run `index` of 2^height entries
abbrev pub tile_under : ℕ → ℕ → ℕ → tile.Tile
tile_under size height index = tile_with size (height / 8) (index * 2 ^ (height % 8) / 256)

-- a tile that is named is one of the log of so many entries, and isn't one that is promised
abbrev pub IsUngivenTile : (tile.Tile → Bool) → ℕ → TileError → Type 0
IsUngivenTile has size (Tile tile) =
    (tile.level < 8) × IsPieceOf (hash_count tile.level size) tile.index tile.width
    × (has tile ≡ false)
IsUngivenTile has size Range = Unit {0}
IsUngivenTile has size Differs = Unit {0}
IsUngivenTile has size Memory = Unit {0}

-- the digests of a log's first n entries
abbrev pub first_digests : (ℕ → List ℕ) → ℕ → List (List ℕ)
first_digests digest n = map digest (range_with_len 0 n)

-- these are the hashes of a tile of each log with these digests that has all of them
abbrev pub AreHashesOf : HashFunction → (ℕ → List ℕ) → tile.Tile → List (List ℕ) → Type 0
AreHashesOf H digest tile hashes = (n : ℕ)
    → (256 * tile.index + tile.width) * 2 ^ (8 * tile.level) ≤ n
    → hashes ≡ tile_hashes H tile.level tile.index tile.width (first_digests digest n)
