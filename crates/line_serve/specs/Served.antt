-- What a run over a whole input has done.
use Rattle.std.specs.Prelude.{◌≤◌, ◌≡◌, ◌≢◌, ◌⊎◌, ◌↔◌, ℕ, ◌<◌, ◌^◌, List, ◌++◌, length, Option}
use Rattle.std.specs.Prelude.{Some, IfSome, []}
use Rattle.std.specs.Io.KnownBytes.{Appends, Consumes, IsAtEnd}
use Rattle.line_serve.specs.declared.lines.Status.{Status}
use Rattle.line_serve.specs.declared.lines.Status.TheVariants.{Whole, SourceFailed, SinkFailed}
use Rattle.line_serve.specs.declared.lines.Status.TheVariants.{LimitReached, OutOfMemory}
use Rattle.line_serve.specs.Lines.{closed_lines, ended_lines, lines, replies_to}

-- xs begins with front
abbrev pub BeginsWith : List ℕ → List ℕ → Type 0
BeginsWith xs front = (rest : List ℕ) × (xs ≡ front ++ rest)

-- the most bytes that a run reads
abbrev pub input_limit : ℕ
input_limit = 2 ^ 40

-- A run that stopped early at this status, after the input's first bytes p, wrote a prefix of the
-- replies.
pub record WritesPrefix (reply : List ℕ → List ℕ) (p out : List ℕ) (left' : Option (List ℕ))
    (status : ℕ) : Type 0 where
  -- 3 and 5: nothing beyond the replies that are known by then, and the reply to each line that a
  -- line feed ended
  pub held : (status ≡ 3) ⊎ (status ≡ 5) → BeginsWith (replies_to reply (ended_lines p)) out
      × BeginsWith out (replies_to reply (closed_lines p))
  -- 4 and 6, with something left in the source: nothing beyond the replies that are known by then
  pub cut : (status ≡ 4) ⊎ (status ≡ 6) → (IsAtEnd left' → ⊥)
      → BeginsWith (replies_to reply (ended_lines p)) out
  -- 4 and 6, with nothing left: the last piece is a line too
  pub cut_at_end : (status ≡ 4) ⊎ (status ≡ 6) → IsAtEnd left'
      → BeginsWith (replies_to reply (lines p)) out

-- What a run has done that ended with this status. The source had `left` and has `left'`,
-- the sink had `taken` and has `taken'`, each where it tells its bytes.
pub record Served (reply : List ℕ → List ℕ) (left left' taken taken' : Option (List ℕ))
    (status : ℕ) : Type 0 where
  -- the bytes that left the source
  pub p : List ℕ
  pub consumed : Consumes left left' p
  pub within : length p ≤ input_limit
  -- the bytes that the sink took
  pub out : List ℕ
  pub appended : Appends taken taken' out
  -- 0: nothing is left, and each line has its reply
  pub answered : status ≡ 0
      → IsAtEnd left' × (length p < input_limit) × (out ≡ replies_to reply (lines p))
  -- 3, 4, 5 and 6: a prefix of the replies is written
  pub prefix : WritesPrefix reply p out left' status
  -- 5: exactly where the limit was reached, and neither a fault nor want of memory came
  pub limit : (status ≡ 5) ↔ ((length p ≡ input_limit) × (status ≢ 3) × (status ≢ 4) × (status ≢ 6))

-- Between a source and a sink that tell their bytes: nothing is left of the input, which is shorter
-- than the limit, and the sink took the replies to all its lines.
abbrev pub AnswersAll : (List ℕ → List ℕ) → Option (List ℕ) → Option (List ℕ)
    → Option (List ℕ) → Option (List ℕ) → Type 0
AnswersAll reply left left' taken taken' = IfSome left (λ input. IfSome taken (λ before.
    (left' ≡ Some []) × (length input < input_limit)
    × (taken' ≡ Some (before ++ replies_to reply (lines input)))))

-- the number of a status
abbrev pub code_of : Status → ℕ
code_of Whole = 0
code_of SourceFailed = 3
code_of SinkFailed = 4
code_of LimitReached = 5
code_of OutOfMemory = 6
