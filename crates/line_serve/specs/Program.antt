-- What a program of lines has done, of whose words only the empty ones are right.
use Rattle.std.specs.Prelude.{◌≡◌, ◌≢◌, ◌⊎◌, ℕ, ◌<◌, ◌^◌, List, [], length, Option, IsSomeAnd}
use Rattle.std.specs.Io.KnownBytes.{Appends}
use Rattle.line_serve.specs.Causes.{Rose}
use Rattle.line_serve.specs.Engine.{TakesFront}
use Rattle.line_serve.specs.Served.{AnswersAll, Served}

-- a usage text was written: whole with status 2, and a front of it with status 4
abbrev pub TellsUsage : List ℕ → Option (List ℕ) → Option (List ℕ) → ℕ → Type 0
TellsUsage usage taken taken' status =
    ((status ≡ 2) × Appends taken taken' usage)
    ⊎ ((status ≡ 4) × TakesFront taken taken' usage)

-- The clauses of a program whose replies to lines are `reply`. Each end had and has its bytes and
-- its count of faults.
pub record ServesLines (reply : List ℕ → List ℕ) (usage : List ℕ) (words : List (List ℕ))
    (left left' taken taken' : Option (List ℕ)) (reads reads' writes writes' status : ℕ)
    : Type 0 where
  pub statuses : (status ≡ 0) ⊎ (status ≡ 2) ⊎ (status ≡ 3) ⊎ (status ≡ 4)
      ⊎ (status ≡ 5) ⊎ (status ≡ 6)
  pub answered : words ≡ [] → status ≡ 0 → AnswersAll reply left left' taken taken'
  pub served : words ≡ [] → Served reply left left' taken taken' status
  pub completes : words ≡ [] → IsSomeAnd left (λ input. length input < 2 ^ 40)
      → (Rose reads reads' → ⊥) → (Rose writes writes' → ⊥) → (status ≡ 0) ⊎ (status ≡ 6)
  pub read_cause : status ≡ 3 → Rose reads reads'
  pub write_cause : status ≡ 4 → Rose writes writes'
  pub usage_told : words ≢ [] → TellsUsage usage taken taken' status
  pub usage_only : status ≡ 2 → words ≢ []
