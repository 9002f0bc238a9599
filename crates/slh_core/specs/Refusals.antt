-- Refusals for the sizes of what a call is given. Each call says by which of its errors it refuses.
use Rattle.std.specs.Prelude.{◌≡◌, ◌⊎◌, ◌==◌, ℕ, ◌^◌, List, [], ◌∷◌, length, nat_lt}
use Rattle.std.specs.Prelude.{Option, None, Some, Result, Err, MatchResult, if◌then◌else◌, unwrap_or}

-- the first of the refusals that stand
abbrev pub first_refusal : {E : Type 0} → List (Option E) → Option E
first_refusal [] = None
first_refusal (None ∷ later) = first_refusal later
first_refusal (Some refusal ∷ later) = Some refusal

-- an answer, unless there is a refusal
abbrev pub unless_refused : {T E : Type 0} → Option E → Result T E → Result T E
unless_refused None answer = answer
unless_refused (Some refusal) answer = Err refusal

-- the call is refused for exactly this cause, and not at all where there is none
abbrev pub RefusedExactly : {T E : Type 0} → Result T E → Option E → Type 0
RefusedExactly result refusal = MatchResult result (λ _. refusal ≡ None) (λ e. refusal ≡ Some e)

-- the same, but where there is no cause the call may still find no memory, and says so by `memory`
abbrev pub RefusedOrNoMemory : {T E : Type 0} → E → Result T E → Option E → Type 0
RefusedOrNoMemory memory result refusal =
    MatchResult result (λ _. refusal ≡ None) (λ e. e ≡ unwrap_or refusal memory)

-- the same, but the call may find no memory before it looks for a cause, too
abbrev pub RefusedOrMemory : {T E : Type 0} → E → Result T E → Option E → Type 0
RefusedOrMemory memory result refusal =
    MatchResult result (λ _. refusal ≡ None) (λ e. (e ≡ memory) ⊎ (refusal ≡ Some e))

-- there are so many bytes
abbrev pub length_refusal : {E : Type 0} → E → ℕ → ℕ → Option E
length_refusal refusal wanted len = if len == wanted then None else Some refusal

-- a randomizer has n bytes, where one is given
abbrev pub randomizer_refusal : {E : Type 0} → E → ℕ → Option (List ℕ) → Option E
randomizer_refusal refusal n None = None
randomizer_refusal refusal n (Some bytes) = length_refusal refusal n (length bytes)

-- a context has at most 255 bytes (FIPS 205, algorithm 22)
abbrev pub context_refusal : {E : Type 0} → E → List ℕ → Option E
context_refusal refusal context = if nat_lt 255 (length context) then Some refusal else None

-- a message has at most 2^60 bytes
abbrev pub message_refusal : {E : Type 0} → E → List ℕ → Option E
message_refusal refusal message = if nat_lt (2 ^ 60) (length message) then Some refusal else None
