-- The names of the files that an append adds to a log.
use Rattle.std.specs.Prelude.{◌≡◌, ◌≢◌, ◌⊎◌, ◌<◌, ◌≤◌, ◌/◌, ℕ, List, [], ◌∷◌, ◌++◌, codes, map}
use Rattle.std.specs.List.{AllByRecursion}
use Rattle.log_tiles.specs.Names.{bundle_path, tile_path}
use Rattle.log_tiles.specs.Tiles.{hash_count}
use Rattle.log_files.specs.Appending.{Named, named}
use Rattle.log_files.specs.Publishing.{IsWhole}
use Rattle.log_files.specs.declared.appending.LogFile.{LogFile}
use Rattle.log_files.specs.declared.publishing.Piece.{Piece}
use Rattle.whole_files.specs.Files.{Files}
use Rattle.whole_files.specs.Parts.{HasPartEnd}

-- each is another one than all others
abbrev pub Differ : List (List ℕ) → Type 0
Differ [] = Unit {0}
Differ (name ∷ names) = AllByRecursion (λ other. name ≢ other) names × Differ names

abbrev pub names_of : List Named → List (List ℕ)
names_of files = map (λ file. file.name) files

-- a name of a full bundle, or of a full tile, of a log of so many entries
abbrev pub IsFullBundle : ℕ → List ℕ → Type 0
IsFullBundle count name = (index : ℕ) × (index < count / 256) × (name ≡ bundle_path index 256)

abbrev pub IsFullTile : ℕ → List ℕ → Type 0
IsFullTile count name =
    (level : ℕ) × (index : ℕ) × (level < 8) × (index < hash_count level count / 256)
    × (name ≡ tile_path level index 256)

-- all names of some files are such, and they differ
pub record AreSuch (P : List ℕ → Type 0) (files : List Named) : Type 0 where
  pub such : AllByRecursion P (names_of files)
  pub differ : Differ (names_of files)

-- bundles and tiles are full ones, each with a name of its own
pub record AreFull (count : ℕ) (bundles tiles : List Named) : Type 0 where
  pub bundles_are : AreSuch (IsFullBundle count) bundles
  pub tiles_are : AreSuch (IsFullTile count) tiles

-- the same of what became full in a log that grows
abbrev pub HaveFullNames : ℕ → List LogFile → List LogFile → Type 0
HaveFullNames count bundles tiles = AreFull count (map named bundles) (map named tiles)

-- files with these names were put behind others
abbrev pub PutNames : List LogFile → List Named → List LogFile → Type 0
PutNames old more new = names_of (map named new) ≡ names_of (map named old) ++ names_of more

-- a name of a bundle, or of a tile
abbrev pub IsBundleName : List ℕ → Type 0
IsBundleName name =
    (index : ℕ) × (width : ℕ) × (width ≤ 256) × (name ≡ bundle_path index width)

abbrev pub IsTileName : List ℕ → Type 0
IsTileName name =
    (level : ℕ) × (index : ℕ) × (width : ℕ) × (level < 8) × (width ≤ 256)
    × (name ≡ tile_path level index width)

abbrev pub IsName : List ℕ → Type 0
IsName name = IsBundleName name ⊎ IsTileName name

-- a path of a name below a folder. 47 is a slash
abbrev pub below : List ℕ → List ℕ → List ℕ
below folder name = folder ++ 47 ∷ name

-- pieces are these files below a folder, and the head is the log's checkpoint there
pub record AreBelow (folder : List ℕ) (files : List Named) (ps : List Piece) (head : Piece)
    : Type 0 where
  pub paths : map (λ p. p.path.now) ps ≡ map (below folder) (names_of files)
  pub parts : AllByRecursion (λ p. HasPartEnd p.part.now) ps
  pub head_path : head.path.now ≡ below folder (codes "checkpoint")
  pub head_part : HasPartEnd head.part.now

-- the same with the bytes of the files and of the checkpoint
pub record ArePieces (folder : List ℕ) (files : List Named) (checkpoint : List ℕ)
    (ps : List Piece) (head : Piece) : Type 0 where
  pub names : AreBelow folder files ps head
  pub bytes : map (λ p. p.bytes.now) ps ≡ map (λ file. file.bytes) files
  pub head_bytes : head.bytes.now ≡ checkpoint

-- where a log's checkpoint stands
abbrev pub checkpoint_path : List ℕ → List ℕ
checkpoint_path folder = below folder (codes "checkpoint")

-- each of some files stands whole below a folder, and so does the checkpoint
abbrev pub StandWhole : List ℕ → List Named → List ℕ → Files → Type 0
StandWhole folder files checkpoint n =
    AllByRecursion (λ file. IsWhole file.bytes (n (below folder file.name))) files
    × IsWhole checkpoint (n (checkpoint_path folder))

-- the checkpoint has what it had, or it and all files stand whole
abbrev pub IsHeadLast : Files → List ℕ → List Named → List ℕ → Files → Type 0
IsHeadLast m folder files checkpoint n =
    (n (checkpoint_path folder) ≡ m (checkpoint_path folder)) ⊎ StandWhole folder files checkpoint n
