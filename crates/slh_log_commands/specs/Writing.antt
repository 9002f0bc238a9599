-- The files of a log that are written below its folder.
use Rattle.std.specs.Prelude.{◌≡◌, ◌≢◌, ◌⊎◌, ℕ, List, None, map, string_bytes}
use Rattle.std.specs.List.{AllByRecursion}
use Rattle.log_files.specs.Appending.{Named}
use Rattle.log_files.specs.Names.{StandWhole, below, checkpoint_path}
use Rattle.log_files.specs.Publishing.{IsWhole}
use Rattle.log_files.specs.declared.appending.LogFile.{LogFile}
use Rattle.log_files.specs.declared.publishing.Piece.{Piece}
use Rattle.slh_log_commands.specs.declared.file_names.Names.{Names}
use Rattle.whole_files.specs.Files.{Files}
use Rattle.whole_files.specs.Parts.{HasPartEnd}

-- each file has a path below the folder, and the name of a part until it is whole
pub record AreNamesOf (folder : List ℕ) (files : List LogFile) (names : List Names) : Type 0 where
  pub paths : map (λ n. string_bytes n.path) names
      ≡ map (λ file. below folder (string_bytes file.name)) files
  pub parts : AllByRecursion (λ n. HasPartEnd (string_bytes n.part)) names

-- each piece has these names, and the bytes of its file
pub record ArePiecesOf (files : List LogFile) (names : List Names) (ps : List Piece) : Type 0 where
  pub paths : map (λ p. p.path.now) ps ≡ map (λ n. string_bytes n.path) names
  pub parts : map (λ p. p.part.now) ps ≡ map (λ n. string_bytes n.part) names
  pub bytes : map (λ p. p.bytes.now) ps ≡ map (λ file. file.bytes.items) files

-- the checkpoint has what it had, or it stands whole where nothing stood
abbrev pub IsHeadNew : Files → List ℕ → List ℕ → Files → Type 0
IsHeadNew m folder checkpoint n =
    (n (checkpoint_path folder) ≡ m (checkpoint_path folder))
    ⊎ ((m (checkpoint_path folder) ≡ None) × IsWhole checkpoint (n (checkpoint_path folder)))

-- a file beside a log: not below its folder, nor one that is begun
pub record IsBeside (folder path : List ℕ) : Type 0 where
  pub apart : (name : List ℕ) → path ≢ below folder name
  pub own : ¬ HasPartEnd path

-- all files of a log stand whole, the checkpoint in a file beside it, and the checkpoint itself
abbrev pub StandAll : List ℕ → List Named → List ℕ → List ℕ → Files → Type 0
StandAll folder files last checkpoint n =
    StandWhole folder files checkpoint n × IsWhole checkpoint (n last)

-- a file beside a log has what it had, or it has the checkpoint, and all files of the log stand whole
abbrev pub IsLastAfter : Files → List ℕ → List Named → List ℕ → List ℕ → Files → Type 0
IsLastAfter m folder files last checkpoint n =
    (n last ≡ m last)
    ⊎ (AllByRecursion (λ file. IsWhole file.bytes (n (below folder file.name))) files
    × IsWhole checkpoint (n last))

-- the checkpoint has what it had, or all of them stand whole
abbrev pub IsHeadAfter : Files → List ℕ → List Named → List ℕ → List ℕ → Files → Type 0
IsHeadAfter m folder files last checkpoint n =
    (n (checkpoint_path folder) ≡ m (checkpoint_path folder)) ⊎ StandAll folder files last checkpoint n

-- files, the one beside and the checkpoint are written in this order
pub record AreWritten (m : Files) (folder : List ℕ) (files : List Named) (last checkpoint : List ℕ)
    (n : Files) : Type 0 where
  pub last_after : IsLastAfter m folder files last checkpoint n
  pub head_after : IsHeadAfter m folder files last checkpoint n
