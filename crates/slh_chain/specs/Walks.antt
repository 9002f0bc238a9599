-- Walking a chain: which links are good, and where the chain ends. Link i is looked at with a key
-- and a budget: the root key and 16 for link 0, and after that the subject and the depth of the
-- link before.
use Rattle.std.specs.Prelude.{◌≡◌, ◌<◌, ◌≢◌, ℕ, zero, suc, List, [], ◌∷◌}
use Rattle.std.specs.Prelude.{nat_lt, Option, None, Some, Result, Ok, Err}
use Rattle.std.specs.Prelude.{if◌then◌else◌}
use Rattle.slh_core.specs.Parameters.{Scheme}
use Rattle.slh_core.specs.Refusals.{first_refusal}
use Rattle.slh_dsa.specs.Calls.{is_valid}
use Rattle.slh_frames.specs.declared.frame.Mode.TheVariants.{Pure}
use Rattle.slh_chain.specs.Links.{after_link, body_of, chain_context, has_form}
use Rattle.slh_chain.specs.Links.{link_depth, link_signature, link_subject}
use Rattle.slh_chain.specs.declared.error.ChainError.{ChainError}
use Rattle.slh_chain.specs.declared.error.ChainError.TheVariants.{Form, Budget, Invalid}

-- what the walk has before link i: the key and the budget of that link, and the bytes from it on
pub record Place : Type 0 where
  pub key : List ℕ
  pub budget : ℕ
  pub rest : List ℕ

unfoldable pub place : Scheme → List ℕ → List ℕ → ℕ → Place
place Z root chain zero = record { key = root; budget = 16; rest = chain }
place Z root chain (suc i) =
    let rest = (place Z root chain i).rest in
    record { key = link_subject Z rest; budget = link_depth rest; rest = after_link Z rest }

-- why link i isn't good: the first of its conditions that fails
abbrev pub form_fault : Scheme → ℕ → Place → Option ChainError
form_fault Z i at = if has_form Z at.rest then None else Some (Form i)

abbrev pub budget_fault : ℕ → Place → Option ChainError
budget_fault i at = if nat_lt (link_depth at.rest) at.budget then None else Some (Budget i)

abbrev pub signature_fault : Scheme → ℕ → Place → Option ChainError
signature_fault Z i at =
    if is_valid Z Pure at.key chain_context (body_of Z at.rest) (link_signature Z at.rest)
    then None else Some (Invalid i)

abbrev pub link_fault : Scheme → ℕ → Place → Option ChainError
link_fault Z i at =
    first_refusal (form_fault Z i at ∷ budget_fault i at ∷ signature_fault Z i at ∷ [])

-- where a chain ends
pub record Ended : Type 0 where
  pub key : List ℕ
  pub budget : ℕ
  pub links : ℕ

abbrev pub ended_at : ℕ → Place → Ended
ended_at i at = record { key = at.key; budget = at.budget; links = i }

-- the fault, or else what comes later
abbrev pub or_later : Option ChainError → Result Ended ChainError → Result Ended ChainError
or_later None later = later
or_later (Some fault) later = Err fault

-- the end where no bytes are left, or the fault of a link, or else what comes later
abbrev pub end_or : List ℕ → Ended → Option ChainError → Result Ended ChainError
    → Result Ended ChainError
end_or [] end fault later = Ok end
end_or (x ∷ xs) end fault later = or_later fault later

-- what walking answers from link i on, of which `left` are looked at
unfoldable pub answer_from : Scheme → List ℕ → List ℕ → ℕ → ℕ → Result Ended ChainError
answer_from Z root chain zero i = Err (Budget i)
answer_from Z root chain (suc left) i =
    let at = place Z root chain i in
    end_or at.rest (ended_at i at) (link_fault Z i at) (answer_from Z root chain left (suc i))

-- What walking answers. Since budgets fall from 16, the seventeenth link isn't looked at: a chain
-- that hasn't ended before it has a fault before it.
unfoldable pub walk_answer : Scheme → List ℕ → List ℕ → Result Ended ChainError
walk_answer Z root chain = answer_from Z root chain 17 0

-- the fault that stands at link i, if it is there
abbrev pub fault_at : Scheme → List ℕ → List ℕ → ℕ → Option ChainError
fault_at Z root chain i = link_fault Z i (place Z root chain i)

-- the chain has so many links, and each is good
pub record IsGood (Z : Scheme) (root chain : List ℕ) (links : ℕ) : Type 0 where
  pub each : (i : ℕ) → i < links → fault_at Z root chain i ≡ None
  pub no_more : (place Z root chain links).rest ≡ []

-- link i is there and has this fault, and each link before it is good
pub record IsFaulty (Z : Scheme) (root chain : List ℕ) (i : ℕ) (fault : ChainError) : Type 0 where
  pub each : (j : ℕ) → j < i → fault_at Z root chain j ≡ None
  pub there : (place Z root chain i).rest ≢ []
  pub first : fault_at Z root chain i ≡ Some fault
