-- What is answered to who makes a chain longer, or verifies a message under one. Z is the scheme, of
-- values of n bytes.
use Rattle.std.specs.Prelude.{ℕ, ◌*◌, List, [], ◌∷◌, drop, nat_lt, Option, None, Some, Result, Ok}
use Rattle.std.specs.Prelude.{Err, if◌then◌else◌, length}
use Rattle.std.specs.Option.{option_map}
use Rattle.std.specs.Str.{bytes_eq}
use Rattle.slh_core.specs.Parameters.{Scheme}
use Rattle.slh_dsa.specs.Calls.{hash_verify_error}
use Rattle.slh_dsa.specs.declared.error.Error.{Error}
use Rattle.slh_frames.specs.declared.frame.Mode.{Mode}
use Rattle.slh_core.specs.Refusals.{first_refusal, randomizer_refusal, unless_refused}
use Rattle.slh_chain.specs.Links.{is_name_size}
use Rattle.slh_chain.specs.Walks.{Ended, walk_answer}
use Rattle.slh_chain.specs.declared.error.ChainError.{ChainError}
use Rattle.slh_chain.specs.declared.error.ExtendError.{ExtendError}
use Rattle.slh_chain.specs.declared.error.ExtendError.TheVariants.{Key, Budget, Name, Randomizer}
use Rattle.slh_chain.specs.declared.error.UnderError.{UnderError}
use Rattle.slh_chain.specs.declared.error.UnderError.TheVariants.{Chain, Signature}

-- the signing key is the one at the end
abbrev pub key_refusal : Scheme → Ended → List ℕ → Option ExtendError
key_refusal Z end key = if bytes_eq (drop (2 * Z.n) key) end.key then None else Some Key

-- the depth is below the budget there
abbrev pub budget_refusal : Ended → ℕ → Option ExtendError
budget_refusal end depth = if nat_lt depth end.budget then None else Some Budget

abbrev pub name_refusal : List ℕ → Option ExtendError
name_refusal name = if is_name_size (length name) then None else Some Name

-- why a chain with this end isn't made longer
abbrev pub extend_refusal : Scheme → Ended → List ℕ → List ℕ → ℕ → Option (List ℕ)
    → Option ExtendError
extend_refusal Z end key name depth opt_rand = first_refusal
    (key_refusal Z end key ∷ budget_refusal end depth ∷ name_refusal name
    ∷ randomizer_refusal Randomizer Z.n opt_rand ∷ [])

-- what is answered to a signature of a message, with a context, by the key at the end of a walk
abbrev pub under_end : Scheme → Mode → List ℕ → List ℕ → List ℕ → Result Ended ChainError
    → Result Ended UnderError
under_end Z mode context message sig (Err fault) = Err (Chain fault)
under_end Z mode context message sig (Ok end) = unless_refused
    (option_map Signature (hash_verify_error Z mode end.key context message sig)) (Ok end)

-- and to one under a root key and a chain
abbrev pub under_answer : Scheme → List ℕ → List ℕ → Mode → List ℕ → List ℕ → List ℕ
    → Result Ended UnderError
under_answer Z root chain mode context message sig =
    under_end Z mode context message sig (walk_answer Z root chain)
