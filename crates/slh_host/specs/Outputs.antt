-- What becomes of an output, and of what stands at its place.
use Rattle.std.specs.Prelude.{◌≡◌, ◌⊎◌, ℕ, true, List, take, Option, None, Some, Result, Ok, Err}
use Rattle.whole_files.specs.Files.{Files, Node, Same}
use Rattle.whole_files.specs.Whole.{IsWriting, IsWritten, Writes}
use Rattle.whole_files.specs.declared.error.Written.{Written}
use Rattle.whole_files.specs.declared.error.WriteError.TheVariants.{Failed}
use Rattle.whole_files.specs.declared.file.Kind.TheVariants.{Regular}
use Rattle.slh_host.specs.Secrets.{is_other, is_secret}
use Rattle.slh_host.specs.declared.secrets.Kept.{Kept}
use Rattle.slh_host.specs.declared.whole_outputs.PutError.{PutError}
use Rattle.slh_host.specs.declared.whole_outputs.PutError.TheVariants.{Secret, Key, Unread, Memory, Write}

-- a regular file stands there
abbrev pub IsRegular : Option Node → Type 0
IsRegular None = ⊥
IsRegular (Some node) = node.kind ≡ Regular

-- the first 2^16 bytes of what stands there, or all
abbrev pub IsFront : Option Node → List ℕ → Type 0
IsFront None front = ⊥
IsFront (Some node) front = front ≡ take 65536 node.bytes

-- a regular file stands there that may hold a secret
abbrev pub HoldsSecret : Option Node → Type 0
HoldsSecret None = ⊥
HoldsSecret (Some node) = (node.kind ≡ Regular) × (is_secret (take 65536 node.bytes) ≡ true)

-- a regular file stands there that may hold what is kept besides secrets
abbrev pub HoldsOther : Kept → Option Node → Type 0
HoldsOther kept None = ⊥
HoldsOther kept (Some node) = (node.kind ≡ Regular) × (is_other kept (take 65536 node.bytes) ≡ true)

-- a regular file stands there that isn't replaced
abbrev pub IsKept : Kept → Option Node → Type 0
IsKept kept here = HoldsSecret here ⊎ HoldsOther kept here

-- what stands there may be replaced, or why it is left alone
abbrev pub Spares : Kept → Option Node → Result (Unit {0}) PutError → Type 0
Spares kept here (Ok _) = IsKept kept here → ⊥
Spares kept here (Err Secret) = HoldsSecret here
Spares kept here (Err Key) = HoldsOther kept here
Spares kept here (Err Unread) = IsRegular here
Spares kept here (Err Memory) = IsRegular here
Spares kept here (Err (Write error)) = error ≡ Failed

-- a refusal before anything is written
abbrev pub IsBefore : PutError → Type 0
IsBefore Secret = Unit {0}
IsBefore Key = Unit {0}
IsBefore Unread = Unit {0}
IsBefore Memory = Unit {0}
IsBefore (Write error) = ⊥

-- At each moment: nothing that is kept stood at the path, and the file is being written whole.
abbrev pub IsPutting : Kept → Files → List ℕ → List ℕ → List ℕ → Files → Type 0
IsPutting kept m path part bytes n = (IsKept kept (m path) → ⊥) × IsWriting m path part bytes n

-- What the files are after an output was to be written. Where what is kept stands at the path, nothing
-- is told but that, or what kept it from being seen.
abbrev pub Puts : Kept → Files → List ℕ → List ℕ → List ℕ → Result Written PutError → Files → Type 0
Puts kept m path part bytes (Ok _) n = (IsKept kept (m path) → ⊥) × IsWritten m path part bytes n
Puts kept m path part bytes (Err Secret) n = Same m n × HoldsSecret (m path)
Puts kept m path part bytes (Err Key) n = Same m n × HoldsOther kept (m path)
Puts kept m path part bytes (Err Unread) n = Same m n × IsRegular (m path)
Puts kept m path part bytes (Err Memory) n = Same m n × IsRegular (m path)
Puts kept m path part bytes (Err (Write error)) n =
    Writes {A = Written} m path part bytes (Err error) n × (IsKept kept (m path) → error ≡ Failed)
