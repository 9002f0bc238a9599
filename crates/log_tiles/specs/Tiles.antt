-- The tiles of a log's tree, and their hashes (C2SP, tlog-tiles).
use Rattle.std.specs.Prelude.{◌≡◌, ℕ, zero, suc, ◌+◌, ◌-◌, ◌*◌, ◌/◌, ◌%◌, ◌^◌, ◌<◌, ◌==◌}
use Rattle.std.specs.Prelude.{List, [], length, map, slice_index_or, if◌then◌else◌}
use Rattle.std.specs.List.{flat_map, range_with_len}
use Rattle.merkle_store.specs.Nodes.{run_root}
use Rattle.merkle_tree.specs.Hashes.{HashFunction}

-- how many hashes a level of the tiles over so many digests has
abbrev pub hash_count : ℕ → ℕ → ℕ
hash_count level size = size / 2 ^ (8 * level)

-- hash number i of a level: the root over a run of 256^level digests
abbrev pub level_hash : HashFunction → ℕ → List (List ℕ) → ℕ → List ℕ
level_hash H level q i = run_root H (8 * level) i q

-- the hashes of a tile over the digests q
abbrev pub tile_hashes : HashFunction → ℕ → ℕ → ℕ → List (List ℕ) → List (List ℕ)
tile_hashes H level index width q =
    map (level_hash H level q) (range_with_len (256 * index) width)

-- the hashes of a tile that stand under the root over run `index` of 2^height digests
abbrev pub hashes_under : HashFunction → ℕ → ℕ → List (List ℕ) → List (List ℕ)
hashes_under H height index q =
    map (level_hash H (height / 8) q) (range_with_len (index * 2 ^ (height % 8)) (2 ^ (height % 8)))

-- the bytes of a tile's file
abbrev pub tile_bytes : HashFunction → ℕ → ℕ → ℕ → List (List ℕ) → List ℕ
tile_bytes H level index width q = flat_map (λ hash. hash) (tile_hashes H level index width q)

-- what tiles that grow are seen as: how many digests there are, and for each level 256 places with
-- the hashes of its last tile
pub record Tiles : Type 0 where
  pub count : ℕ
  pub hashes : List (List ℕ)

-- each hash of the last tile of a level over the digests q is in its place
abbrev pub IsLastTile : HashFunction → Tiles → List (List ℕ) → ℕ → Type 0
IsLastTile H tiles q level = (i : ℕ) → i < hash_count level (length q)
    → i / 256 ≡ (hash_count level (length q) - 1) / 256
    → slice_index_or tiles.hashes (256 * level + i % 256) [] ≡ level_hash H level q i

-- and so it is on each level
pub record AreTilesOf (H : HashFunction) (tiles : Tiles) (q : List (List ℕ)) : Type 0 where
  pub count : tiles.count ≡ length q
  pub hashes : (level : ℕ) → level < 8 → IsLastTile H tiles q level

-- how many of the lowest levels have a last tile that the last of n digests made full
unfoldable pub full_within : ℕ → ℕ → ℕ
full_within zero n = 0
full_within (suc k) n = if n % 256 == 0 then 1 + full_within k (n / 256) else 0

abbrev pub full_levels : ℕ → ℕ
full_levels n = full_within 7 n

-- how many hashes the last tile of a level has that has so many
abbrev pub last_width : ℕ → ℕ
last_width count = if count == 0 then 0 else (count - 1) % 256 + 1

-- the hashes of the last tile of a level, none where there is no tile
abbrev pub last_hashes : HashFunction → ℕ → List (List ℕ) → List (List ℕ)
last_hashes H level q =
    let count = hash_count level (length q) in
    tile_hashes H level ((count - 1) / 256) (last_width count) q

-- the bytes of the last tile of a level, no bytes where there is none
abbrev pub last_bytes : HashFunction → ℕ → List (List ℕ) → List ℕ
last_bytes H level q =
    let count = hash_count level (length q) in
    tile_bytes H level ((count - 1) / 256) (last_width count) q
