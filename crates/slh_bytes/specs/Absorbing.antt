-- What becomes of the bytes that an input gives. `left` is what it has left, where that is known,
-- `Fault` that a read of it may fail, and `stands` what an absorber stands for.
use Rattle.std.specs.Prelude.{◌≡◌, ℕ, List, [], ◌++◌, Option, None, Some, IfSome, Result, Ok, Err, length}
use Rattle.std.specs.Io.KnownBytes.{Consumes, IsAtEnd}
use Rattle.slh_bytes.specs.Terms.{Terms}
use Rattle.slh_bytes.specs.declared.read_error.ReadError.{ReadError}
use Rattle.slh_bytes.specs.declared.read_error.ReadError.TheVariants.{Read, Refused, Changed}
use Rattle.slh_jobs.specs.declared.job.Error.{Error}
use Rattle.slh_jobs.specs.declared.job.Error.TheVariants.{MessageTooLong}
use Rattle.slh_core.specs.Refusals.{message_refusal}

-- bytes are all that was left, where that is known
abbrev pub IsAll : Option (List ℕ) → List ℕ → Type 0
IsAll left bytes = IfSome left (λ all. bytes ≡ all)

-- what was absorbed goes on by a piece, and isn't too long
abbrev pub GoesOn : {T : Type 0} → (T → Terms → List ℕ → Type 0) → T → T → List ℕ → List ℕ → Type 0
GoesOn stands old new before piece = (terms : Terms) → stands old terms before
    → stands new terms (before ++ piece)
    × (message_refusal MessageTooLong (before ++ piece) ≡ None)

-- it would be too long
abbrev pub TooLong : {T : Type 0} → (T → Terms → List ℕ → Type 0) → T → List ℕ → List ℕ → Error
    → Type 0
TooLong stands old before piece refusal = (terms : Terms) → stands old terms before
    → message_refusal MessageTooLong (before ++ piece) ≡ Some refusal

-- A piece was read, as many bytes as are told, none only at the end, and it was absorbed or makes
-- the message too long; or the read failed.
abbrev pub Absorbs : {T : Type 0} → (T → Terms → List ℕ → Type 0) → T → T
    → Type 0 → Option (List ℕ) → Option (List ℕ) → Result ℕ ReadError → Type 0
Absorbs stands old new Fault left rest (Ok count) =
    (piece : List ℕ) × (length piece ≡ count) × Consumes left rest piece × (count ≡ 0 → IsAtEnd rest)
    × ((before : List ℕ) → GoesOn stands old new before piece)
Absorbs stands old new Fault left rest (Err (Read fault)) = Fault
Absorbs stands old new Fault left rest (Err (Refused refusal)) =
    (piece : List ℕ) × Consumes left rest piece
    × ((before : List ℕ) → TooLong stands old before piece refusal)
Absorbs stands old new Fault left rest (Err Changed) = ⊥

-- all was read and absorbed, after nothing, or it is too long, or a read failed
unfoldable pub AbsorbsAll : {T : Type 0} → (T → Terms → List ℕ → Type 0) → T → T
    → Type 0 → Option (List ℕ) → Result (Unit {0}) ReadError → Type 0
AbsorbsAll stands old new Fault left (Ok _) =
    (all : List ℕ) × IsAll left all × GoesOn stands old new [] all
AbsorbsAll stands old new Fault left (Err (Read fault)) = Fault
AbsorbsAll stands old new Fault left (Err (Refused refusal)) =
    (all : List ℕ) × IsAll left all × TooLong stands old [] all refusal
AbsorbsAll stands old new Fault left (Err Changed) = ⊥
