-- Folders that a log's files stand in.
use Rattle.std.specs.Prelude.{◌≡◌, ◌≢◌, ◌⊎◌, ℕ, List, Option, None, Some, Result, Ok, Err}
use Rattle.whole_files.specs.Causes.{RoseBy}
use Rattle.whole_files.specs.Files.{Files, MakesFolder, Node, Same}
use Rattle.whole_files.specs.declared.file.Kind.TheVariants.{Folder}
use Rattle.log_files.specs.declared.error.FolderError.{FolderError}
use Rattle.log_files.specs.declared.error.FolderError.TheVariants.{NoFolder, Failed, Unsettled}

-- a folder stands there
abbrev pub IsFolder : Option Node → Type 0
IsFolder None = ⊥
IsFolder (Some node) = node.kind ≡ Folder

-- a file, a link or another thing stands there
abbrev pub IsNoFolder : Option Node → Type 0
IsNoFolder None = ⊥
IsNoFolder (Some node) = node.kind ≢ Folder

-- at each moment: nothing changed, or an empty folder stands where nothing stood
abbrev pub IsFolderMade : Files → List ℕ → Files → Type 0
IsFolderMade m path n = Same m n ⊎ MakesFolder m path n

-- a folder stands at a path: it stood there, or it was made where nothing stood
abbrev pub HasFolder : Files → List ℕ → Files → Type 0
HasFolder m path n = (Same m n × IsFolder (m path)) ⊎ MakesFolder m path n

abbrev pub Folders : Files → List ℕ → Result (Unit {0}) FolderError → Files → Type 0
Folders m path (Ok _) n = HasFolder m path n
Folders m path (Err NoFolder) n = Same m n × IsNoFolder (m path)
Folders m path (Err Failed) n = Same m n
Folders m path (Err Unsettled) n = HasFolder m path n

-- a call failed where no folder is there for another reason than what stands in the way
abbrev pub HasFolderFaults : Result (Unit {0}) FolderError → ℕ → ℕ → Type 0
HasFolderFaults (Ok _) before now = Unit {0}
HasFolderFaults (Err NoFolder) before now = Unit {0}
HasFolderFaults (Err Failed) before now = RoseBy 1 before now
HasFolderFaults (Err Unsettled) before now = RoseBy 1 before now
