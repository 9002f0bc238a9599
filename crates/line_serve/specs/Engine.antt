-- What the engine keeps between two steps.
use Rattle.std.specs.Prelude.{◌≡◌, ℕ, ◌≤◌, List, [], ◌++◌, length, nat_lt, if◌then◌else◌, Option}
use Rattle.std.specs.Prelude.{Result, MatchResult, IfOk, IsErrOf, take}
use Rattle.std.specs.Io.KnownBytes.{Appends, Consumes, Keeps, IsAtEnd}
use Rattle.line_serve.specs.Lines.{line_limit, closed_lines, unfinished, replies_to}
use Rattle.line_serve.specs.Causes.{Rose}
use Rattle.line_serve.specs.declared.pending.Pending.{Pending}
use Rattle.line_serve.specs.declared.write.Halt.{Halt}
use Rattle.line_serve.specs.declared.write.Halt.TheVariants.{SinkFault}

-- what is kept of an unfinished line: nothing once it is too long
abbrev pub kept_of : List ℕ → List ℕ
kept_of line = if nat_lt line_limit (length line) then [] else line

pub record StandsFor (pending : Pending) (line : List ℕ) : Type 0 where
  pub overlong : pending.overlong ≡ nat_lt line_limit (length line)
  pub kept : pending.line ≡ kept_of line

-- the new bytes are the old ones and a front of the text
pub record TakesFront (old new : Option (List ℕ)) (text : List ℕ) : Type 0 where
  pub front : List ℕ
  pub rest : List ℕ
  pub appends : Appends old new front
  pub split : text ≡ front ++ rest

-- the text was taken whole, or a front of it where the call failed
abbrev pub Takes : {T E : Type 0} → Option (List ℕ) → Option (List ℕ) → Result T E → List ℕ → Type 0
Takes old new result text =
    MatchResult result (λ _. Appends old new text) (λ _. TakesFront old new text)

-- The text is what the sink took since it had `start`, and then what waits to be written.
pub record Holds (start taken : Option (List ℕ)) (waiting text : List ℕ) : Type 0 where
  pub written : List ℕ
  pub appends : Appends start taken written
  pub split : text ≡ written ++ waiting

-- what it took and what waits is a front of the text
pub record HoldsFront (start taken : Option (List ℕ)) (waiting text : List ℕ) : Type 0 where
  pub front : List ℕ
  pub rest : List ℕ
  pub holds : Holds start taken waiting front
  pub split : text ≡ front ++ rest

-- bytes that waited may have been written, and none is lost
abbrev pub Moves : Option (List ℕ) → List ℕ → Option (List ℕ) → List ℕ → Type 0
Moves taken waiting taken' waiting' =
    (start : Option (List ℕ)) (text : List ℕ)
    → Holds start taken waiting text → Holds start taken' waiting' text

-- the writing broke off
abbrev pub Breaks : Option (List ℕ) → List ℕ → Option (List ℕ) → List ℕ → Type 0
Breaks taken waiting taken' waiting' =
    (start : Option (List ℕ)) (text : List ℕ)
    → Holds start taken waiting text → HoldsFront start taken' waiting' text

-- After the bytes p each line that a line feed ended has its reply written or waiting,
-- and the pending line stands for the rest.
pub record Answered (reply : List ℕ → List ℕ) (p : List ℕ) (start taken : Option (List ℕ))
    (waiting : List ℕ) (pending : Pending) : Type 0 where
  pub pending_is : StandsFor pending (unfinished p)
  pub replied : Holds start taken waiting (replies_to reply (closed_lines p))

-- from wherever the engine stood, it goes on by these bytes
abbrev pub GoesOn : (List ℕ → List ℕ) → Option (List ℕ) → List ℕ → Pending
    → Option (List ℕ) → List ℕ → Pending → List ℕ → Type 0
GoesOn reply taken waiting pending taken' waiting' pending' bytes =
    (p : List ℕ) (start : Option (List ℕ)) → Answered reply p start taken waiting pending
    → Answered reply (p ++ bytes) start taken' waiting' pending'

-- or it stops, with a front of the replies to the lines that are ended then
abbrev pub Stops : (List ℕ → List ℕ) → Option (List ℕ) → List ℕ → Pending
    → Option (List ℕ) → List ℕ → List ℕ → Type 0
Stops reply taken waiting pending taken' waiting' bytes =
    (p : List ℕ) (start : Option (List ℕ)) → Answered reply p start taken waiting pending
    → HoldsFront start taken' waiting' (replies_to reply (closed_lines (p ++ bytes)))

-- answering stopped for the sink only where its count rose
pub record HaltsFor {T : Type 0} (before now : ℕ) (result : Result T Halt) : Type 0 where
  pub later : before ≤ now
  pub failed : IsErrOf result SinkFault → Rose before now

-- a read of at most so many bytes
pub record Reads {E : Type 0} (left left' : Option (List ℕ)) (most : ℕ) (result : Result ℕ E)
    (buffer : List ℕ) : Type 0 where
  pub bound : IfOk result (λ n. (n ≤ most) × (n ≤ length buffer))
  pub bytes : MatchResult result
      (λ n. Consumes left left' (take n buffer) × (n ≡ 0 → IsAtEnd left')) (λ _. Keeps left left')

-- the engine has answered what left the source so far
pub record Progress (reply : List ℕ → List ℕ) (left left' start taken : Option (List ℕ))
    (pending : Pending) (count : ℕ) : Type 0 where
  pub p : List ℕ
  pub consumed : Consumes left left' p
  pub counted : length p ≡ count
  pub answered : Answered reply p start taken [] pending
