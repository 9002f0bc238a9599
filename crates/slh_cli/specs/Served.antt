-- What the program has done, by its words.
use Rattle.std.specs.Prelude.{◌≡◌, ◌≢◌, ◌⊎◌, ℕ, ◌<◌, ◌^◌, List, [], length, Option, None, IfSome, IsSomeAnd}
use Rattle.line_serve.specs.Causes.{Rose}
use Rattle.line_serve.specs.Served.{AnswersAll, Served}
use Rattle.slh_bench.specs.Bench.{TellsBench, bench_of}
use Rattle.slh_run.specs.Reply.{reply_of_line}
use Rattle.slh_run.specs.Usage.{TellsUsage}

-- The clauses of `serve`, the headline among them. Each end had and has its bytes and its count of
-- faults.
pub record ServesJobs (words : List (List ℕ)) (left left' taken taken' : Option (List ℕ))
    (reads reads' writes writes' status : ℕ) : Type 0 where
  pub statuses : (status ≡ 0) ⊎ (status ≡ 2) ⊎ (status ≡ 3) ⊎ (status ≡ 4)
      ⊎ (status ≡ 5) ⊎ (status ≡ 6)
  pub answered : words ≡ [] → status ≡ 0 → AnswersAll reply_of_line left left' taken taken'
  pub served : words ≡ [] → Served reply_of_line left left' taken taken' status
  pub completes : words ≡ [] → IsSomeAnd left (λ input. length input < 2 ^ 40)
      → (Rose reads reads' → ⊥) → (Rose writes writes' → ⊥) → (status ≡ 0) ⊎ (status ≡ 6)
  pub read_cause : status ≡ 3 → Rose reads reads'
  pub write_cause : status ≡ 4 → Rose writes writes'
  pub benched : IfSome (bench_of words) (λ bench. TellsBench taken taken' status bench)
  pub usage : words ≢ [] → bench_of words ≡ None → TellsUsage taken taken' status
  pub usage_only : status ≡ 2 → (words ≢ []) × (bench_of words ≡ None)
