-- Which tiles and bundles a log of so many entries has (C2SP, tlog-tiles).
use Rattle.std.specs.Prelude.{◌≡◌, ◌⊎◌, ℕ, ◌+◌, ◌-◌, ◌/◌, ◌%◌, ◌<◌, ◌==◌, Option, None, Some}
use Rattle.std.specs.Prelude.{if◌then◌else◌}
use Rattle.log_tiles.specs.declared.names.Tile.{Tile}
use Rattle.log_tiles.specs.declared.names.Bundle.{Bundle}
use Rattle.log_tiles.specs.Tiles.{hash_count}

-- which files hold so many things by 256: the full ones, and behind them one of the rest, if any
pub record IsFull (count index width : ℕ) : Type 0 where
  pub full : width ≡ 256
  pub inside : index < count / 256

pub record IsPartial (count index width : ℕ) : Type 0 where
  pub some : 0 < width
  pub rest : width ≡ count % 256
  pub last : index ≡ count / 256

abbrev pub IsPieceOf : ℕ → ℕ → ℕ → Type 0
IsPieceOf count index width = IsFull count index width ⊎ IsPartial count index width

-- the tile of a level that ends with its last hash
abbrev pub last_tile : ℕ → ℕ → Option Tile
last_tile level size =
    let count = hash_count level size in
    if count == 0
    then None
    else Some (record { level = level; index = (count - 1) / 256; width = (count - 1) % 256 + 1 })

-- the bundle that ends with the last entry
abbrev pub last_bundle : ℕ → Option Bundle
last_bundle size =
    if size == 0
    then None
    else Some (record { index = (size - 1) / 256; width = (size - 1) % 256 + 1 })
