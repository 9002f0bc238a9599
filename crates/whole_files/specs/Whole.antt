-- A file that is written whole.
use Rattle.std.specs.Prelude.{◌≡◌, ◌≢◌, ◌⊎◌, ℕ, true, List, take}
use Rattle.std.specs.Prelude.{Option, None, Some, Result, Ok, Err}
use Rattle.whole_files.specs.declared.file.Kind.TheVariants.{Regular}
use Rattle.whole_files.specs.declared.file.Mode.{Mode}
use Rattle.whole_files.specs.declared.file.Mode.TheVariants.{Masked, Exact}
use Rattle.whole_files.specs.declared.file.Failed as call
use Rattle.whole_files.specs.declared.error.WriteError.{WriteError}
use Rattle.whole_files.specs.declared.error.WriteError.TheVariants.{NotRegular, Taken, Failed, Left}
use Rattle.whole_files.specs.Modes.{bits_of}
use Rattle.whole_files.specs.Files.{Files, Node, Same, Puts, Changes, longer, settled}

-- a regular file with these bytes, all of them on the disk
pub record HasWhole (mode : Mode) (bytes : List ℕ) (here : Option Node) : Type 0 where
  pub node : Node
  pub is : here ≡ Some node
  pub regular : node.kind ≡ Regular
  pub moded : node.mode ≡ mode
  pub whole : node.bytes ≡ bytes
  pub synced : node.synced ≡ true

-- a regular file with the first of these bytes, which has its mode
pub record HasBegun (mode : Mode) (bytes : List ℕ) (here : Option Node) : Type 0 where
  pub node : Node
  pub is : here ≡ Some node
  pub regular : node.kind ≡ Regular
  pub moded : node.mode ≡ mode
  pub count : ℕ
  pub begun : node.bytes ≡ take count bytes

-- what a file is after bytes were written at its end and brought to the disk, or some of them
abbrev pub Fills : Files → List ℕ → List ℕ → Result (Unit {0}) call.Failed → Files → Type 0
Fills m part bytes (Ok _) n = Changes m part (λ node. settled (longer bytes node)) n
Fills m part bytes (Err _) n = Same m n ⊎ ((count : ℕ) × Changes m part (longer (take count bytes)) n)

-- what a file may be while that goes on
abbrev pub IsFilling : Files → List ℕ → List ℕ → Files → Type 0
IsFilling m part bytes n = Changes m part (λ node. settled (longer bytes node)) n
    ⊎ (Same m n ⊎ ((count : ℕ) × Changes m part (longer (take count bytes)) n))

-- a path was taken away, or the call failed
abbrev pub TakesAway : Files → List ℕ → WriteError → Files → Type 0
TakesAway m part Failed n = Puts m part None n
TakesAway m part Left n = Same m n
TakesAway m part NotRegular n = ⊥
TakesAway m part Taken n = ⊥

-- the same but at one path, where what was there stands, or a file that is begun
pub record IsPlacing (m : Files) (part : List ℕ) (mode : Mode) (bytes : List ℕ) (n : Files) : Type 0 where
  pub beside : (n part ≡ m part) ⊎ HasBegun mode bytes (n part)
  pub others : (q : List ℕ) → q ≢ part → n q ≡ m q

-- a new file stands whole at a path where nothing stood
pub record IsPlaced (m : Files) (part : List ℕ) (mode : Mode) (bytes : List ℕ) (n : Files) : Type 0 where
  pub free : m part ≡ None
  pub whole : HasWhole mode bytes (n part)
  pub others : (q : List ℕ) → q ≢ part → n q ≡ m q

abbrev pub Places : Files → List ℕ → Mode → List ℕ → Result (Unit {0}) WriteError → Files → Type 0
Places m part mode bytes (Ok _) n = IsPlaced m part mode bytes n
Places m part mode bytes (Err NotRegular) n = ⊥
Places m part mode bytes (Err Taken) n = Same m n × (m part ≢ None)
Places m part mode bytes (Err Failed) n = Same m n
Places m part mode bytes (Err Left) n = IsPlacing m part mode bytes n

-- the very mode of what stands at a path; what is new is left to the mask
abbrev pub mode_of : Option Node → Mode
mode_of None = Masked
mode_of (Some node) = Exact (bits_of node.mode)

-- nothing stands there, or a regular file
abbrev pub IsWritable : Option Node → Type 0
IsWritable None = Unit {0}
IsWritable (Some node) = node.kind ≡ Regular

-- a link, a folder or another thing stands there
abbrev pub IsOther : Option Node → Type 0
IsOther None = ⊥
IsOther (Some node) = node.kind ≢ Regular

abbrev pub FindsMode : Files → List ℕ → Result Mode WriteError → Type 0
FindsMode m path (Ok mode) = (mode ≡ mode_of (m path)) × IsWritable (m path)
FindsMode m path (Err NotRegular) = IsOther (m path)
FindsMode m path (Err Taken) = ⊥
FindsMode m path (Err Failed) = Unit {0}
FindsMode m path (Err Left) = ⊥

-- At each moment of a write: the path has what it had, or the new bytes, all of them on the disk;
-- beside it stands what stood there, or a file that is begun; and all else is the same.
pub record IsWriting (m : Files) (path part bytes : List ℕ) (n : Files) : Type 0 where
  pub at : (n path ≡ m path) ⊎ HasWhole (mode_of (m path)) bytes (n path)
  pub beside : (n part ≡ m part) ⊎ HasBegun (mode_of (m path)) bytes (n part)
  pub others : (q : List ℕ) → q ≢ path → q ≢ part → n q ≡ m q

-- the path has the new bytes, and all else is the same; nothing stood beside it, and nothing does
pub record IsWritten (m : Files) (path part bytes : List ℕ) (n : Files) : Type 0 where
  pub writable : IsWritable (m path)
  pub whole : HasWhole (mode_of (m path)) bytes (n path)
  pub free : m part ≡ None
  pub others : (q : List ℕ) → q ≢ path → n q ≡ m q

abbrev pub Writes : {A : Type 0} → Files → List ℕ → List ℕ → List ℕ → Result A WriteError → Files → Type 0
Writes m path part bytes (Ok _) n = IsWritten m path part bytes n
Writes m path part bytes (Err NotRegular) n = Same m n × IsOther (m path)
Writes m path part bytes (Err Taken) n = Same m n × (m part ≢ None)
Writes m path part bytes (Err Failed) n = Same m n
Writes m path part bytes (Err Left) n = IsPlacing m part (mode_of (m path)) bytes n

-- At each moment of the making of a file: nothing that stood at the path is replaced, and the new
-- file is whole once it stands there; beside it stands what stood there, or a file that is begun,
-- with its mode; and all else is the same.
pub record IsMaking (m : Files) (path part : List ℕ) (mode : Mode) (bytes : List ℕ) (n : Files) : Type 0 where
  pub at : (n path ≡ m path) ⊎ ((m path ≡ None) × HasWhole mode bytes (n path))
  pub beside : (n part ≡ m part) ⊎ HasBegun mode bytes (n part)
  pub others : (q : List ℕ) → q ≢ path → q ≢ part → n q ≡ m q

-- a new file stands whole where nothing stood, and all else is the same
pub record IsMade (m : Files) (path part : List ℕ) (mode : Mode) (bytes : List ℕ) (n : Files) : Type 0 where
  pub free : m path ≡ None
  pub none_beside : m part ≡ None
  pub whole : HasWhole mode bytes (n path)
  pub others : (q : List ℕ) → q ≢ path → n q ≡ m q

abbrev pub MakesNew : {A : Type 0} → Files → List ℕ → List ℕ → Mode → List ℕ → Result A WriteError → Files → Type 0
MakesNew m path part mode bytes (Ok _) n = IsMade m path part mode bytes n
MakesNew m path part mode bytes (Err NotRegular) n = ⊥
MakesNew m path part mode bytes (Err Taken) n = Same m n × ((m part ≢ None) ⊎ (m path ≢ None))
MakesNew m path part mode bytes (Err Failed) n = Same m n
MakesNew m path part mode bytes (Err Left) n = IsMaking m path part mode bytes n
