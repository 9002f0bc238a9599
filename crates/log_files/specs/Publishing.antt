-- Files that are written one after the other, and a head that is written last.
use Rattle.std.specs.Prelude.{◌≡◌, ◌≢◌, ℕ, suc, zero, List, [], ◌∷◌, length, slice_get}
use Rattle.std.specs.Prelude.{Option, None, Some, Result, Ok, Err}
use Rattle.std.specs.List.{AllByRecursion}
use Rattle.whole_files.specs.Files.{Files, Node}
use Rattle.whole_files.specs.Whole.{HasWhole, IsWriting, IsWritten, Writes}
use Rattle.whole_files.specs.declared.file.Mode.{Mode}
use Rattle.whole_files.specs.declared.error.Written.{Written}
use Rattle.whole_files.specs.declared.error.Written.TheVariants.{Settled, Unsettled as NotSettled}
use Rattle.whole_files.specs.declared.error.WriteError.{WriteError}
use Rattle.whole_files.specs.declared.error.WriteError.TheVariants.{Failed, Left, NotRegular, Taken}
use Rattle.whole_files.specs.Causes.{RoseBy}
use Rattle.log_files.specs.declared.error.PublishError.{PublishError}
use Rattle.log_files.specs.declared.error.PublishError.TheVariants.{AtPiece, Unsettled, AtHead}
use Rattle.log_files.specs.declared.publishing.Piece.{Piece}

-- a file has another name while it is written
abbrev pub IsSeparate : Piece → Type 0
IsSeparate p = p.part.now ≢ p.path.now

-- a file is being written, was written, and was refused
abbrev pub IsWritingPiece : Files → Piece → Files → Type 0
IsWritingPiece m p n = IsWriting m p.path.now p.part.now p.bytes.now n

abbrev pub IsWrittenPiece : Files → Piece → Files → Type 0
IsWrittenPiece m p n = IsWritten m p.path.now p.part.now p.bytes.now n

abbrev pub RefusesPiece : Files → Piece → WriteError → Files → Type 0
RefusesPiece m p error n =
    Writes {A = Written} m p.path.now p.part.now p.bytes.now (Err error) n

-- the first so many files are written, one after the other
abbrev pub FirstWritten : Files → List Piece → ℕ → Files → Type 0
FirstWritten m ps zero n = (q : List ℕ) → n q ≡ m q
FirstWritten m [] (suc i) n = ⊥
FirstWritten m (p ∷ ps) (suc i) n = (a : Files) × IsWrittenPiece m p a × FirstWritten a ps i n

-- the next file is being written, or the head where there is none
abbrev pub IsWritingNext : Files → Option Piece → Piece → Files → Type 0
IsWritingNext m None head n = IsWritingPiece m head n
IsWritingNext m (Some p) head n = IsWritingPiece m p n

-- At each moment: some first pieces are written, and the next one, or the head after all of them, is
-- being written.
abbrev pub IsPublishing : Files → List Piece → Piece → Files → Type 0
IsPublishing m ps head n =
    (i : ℕ) × (a : Files) × FirstWritten m ps i a × IsWritingNext a (slice_get ps i) head n

-- what the files are after the call
abbrev pub Publishes : Files → List Piece → Piece → Result Written PublishError → Files → Type 0
Publishes m ps head (Ok _) n =
    (a : Files) × FirstWritten m ps (length ps) a × IsWrittenPiece a head n
Publishes m ps head (Err (AtPiece i error)) n =
    (a : Files) × (p : Piece) × (slice_get ps i ≡ Some p) × FirstWritten m ps i a
    × RefusesPiece a p error n
Publishes m ps head (Err (Unsettled i)) n = FirstWritten m ps (suc i) n
Publishes m ps head (Err (AtHead error)) n =
    (a : Files) × FirstWritten m ps (length ps) a × RefusesPiece a head error n

-- what the files are after one piece was to be written
abbrev pub PutsPiece : Files → List Piece → ℕ → Result (Unit {0}) PublishError → Files → Type 0
PutsPiece m ps i (Ok _) n = (p : Piece) × (slice_get ps i ≡ Some p) × IsWrittenPiece m p n
PutsPiece m ps i (Err (AtPiece j error)) n =
    (j ≡ i) × ((p : Piece) × (slice_get ps i ≡ Some p) × RefusesPiece m p error n)
PutsPiece m ps i (Err (Unsettled j)) n =
    (j ≡ i) × ((p : Piece) × (slice_get ps i ≡ Some p) × IsWrittenPiece m p n)
PutsPiece m ps i (Err (AtHead error)) n = ⊥

-- a file stands there whole, on the disk
abbrev pub IsWhole : List ℕ → Option Node → Type 0
IsWhole bytes here = (mode : Mode) × HasWhole mode bytes here

-- a path is none of the two names of a file
abbrev pub IsApart : List ℕ → Piece → Type 0
IsApart q p = (q ≢ p.path.now) × (q ≢ p.part.now)

-- no file's path is a name of a later one
abbrev pub AreApart : List Piece → Type 0
AreApart [] = Unit {0}
AreApart (p ∷ ps) = AllByRecursion (IsApart p.path.now) ps × AreApart ps

-- the pieces and the head have names of their own
pub record HaveNames (ps : List Piece) (head : Piece) : Type 0 where
  pub pieces : AreApart ps
  pub head_from_pieces : AllByRecursion (IsApart head.path.now) ps
  pub pieces_from_head : AllByRecursion (λ p. IsApart p.path.now head) ps

-- all of them stand whole
abbrev pub AreWhole : List Piece → Files → Type 0
AreWhole ps n = AllByRecursion (λ p. IsWhole p.bytes.now (n p.path.now)) ps

-- how often calls failed where a write was refused: not at all for what stands in the way
abbrev pub HasFaultsOf : WriteError → ℕ → ℕ → Type 0
HasFaultsOf Failed before now = RoseBy 1 before now
HasFaultsOf Left before now = RoseBy 2 before now
HasFaultsOf NotRegular before now = Unit {0}
HasFaultsOf Taken before now = Unit {0}

-- the same where nothing is published, or the head's folder wasn't brought to the disk
abbrev pub HasFaultsAt : PublishError → ℕ → ℕ → Type 0
HasFaultsAt (AtPiece i error) before now = HasFaultsOf error before now
HasFaultsAt (Unsettled i) before now = RoseBy 1 before now
HasFaultsAt (AtHead error) before now = HasFaultsOf error before now

abbrev pub HasFaults : Result Written PublishError → ℕ → ℕ → Type 0
HasFaults (Ok Settled) before now = Unit {0}
HasFaults (Ok NotSettled) before now = RoseBy 1 before now
HasFaults (Err error) before now = HasFaultsAt error before now
