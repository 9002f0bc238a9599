-- What walking a chain of delegations answers, by the numbers of the header. Z is the scheme.
use Rattle.std.specs.Prelude.{ℕ, ◌*◌, ◌==◌, List, length, if◌then◌else◌, ⊤}
use Rattle.std.specs.Prelude.{Result, Ok, Err}
use Rattle.slh_chain.specs.Walks.{Ended, walk_answer}
use Rattle.slh_chain.specs.declared.error.ChainError.{ChainError}
use Rattle.slh_chain.specs.declared.error.ChainError.TheVariants.{Form, Budget, Invalid}
use Rattle.slh_core.specs.Parameters.{Scheme}
use Rattle.slh_dsa_c.specs.Status.{in_set, status_of}
use Rattle.slh_dsa_c.specs.declared.chains.CEnd.{CEnd}
use Rattle.slh_sets.specs.Sets.{scheme_numbered}

-- the numbers of the causes, whichever link has them
abbrev pub fault_number : ChainError → ℕ
fault_number (Form link) = 14
fault_number (Budget link) = 15
fault_number (Invalid link) = 1

-- how an end goes out, beside its key
abbrev pub c_end : Ended → CEnd
c_end end = record { budget = end.budget; links = end.links }

abbrev pub end_or_number : Result Ended ChainError → Result CEnd ℕ
end_or_number (Ok end) = Ok (c_end end)
end_or_number (Err fault) = Err (fault_number fault)

-- the end of a chain under a root key's bytes, whose own key has to fit into so many bytes, or the
-- number of the refusal
abbrev pub walk_answer_by_key : Scheme → List ℕ → List ℕ → ℕ → Result CEnd ℕ
walk_answer_by_key Z root chain len =
    if length root == 2 * Z.n
    then (if len == 2 * Z.n then end_or_number (walk_answer Z root chain) else Err 5)
    else Err 5

abbrev pub walk_status : ℕ → List ℕ → List ℕ → ℕ → ℕ
walk_status set root chain len = in_set (scheme_numbered set) (λ Z.
    status_of (walk_answer_by_key Z root chain len))

-- of the end that a walk comes to, if it does
abbrev pub IfEnded : Result Ended ChainError → (Ended → Type 0) → Type 0
IfEnded (Ok end) P = P end
IfEnded (Err fault) P = ⊤
