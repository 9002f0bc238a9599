-- What signing in pieces stands for as C keeps it, and what its calls answer.
use Rattle.std.specs.Prelude.{◌≡◌, ◌≢◌, ◌==◌, ℕ, ◌*◌, ◌<◌, List, [], ◌∷◌, length}
use Rattle.std.specs.Prelude.{Option, None, Some, MatchOption, if◌then◌else◌}
use Rattle.slh_core.specs.Bytes.{part}
use Rattle.slh_core.specs.Parameters.{Scheme}
use Rattle.slh_dsa.specs.Calls.{sign_input_refusal, signing_key_refusal}
use Rattle.slh_dsa.specs.declared.error.Error.{Error}
use Rattle.slh_frames.specs.declared.message.TheConstants.{MAX_MESSAGE}
use Rattle.slh_dsa_c.specs.declared.sign_pieces.CSigner.{CSigner}
use Rattle.slh_dsa_c.specs.declared.sign_pieces.Pass.{Pass}
use Rattle.slh_dsa_c.specs.declared.sign_pieces.Pass.TheVariants.{First, Second}
use Rattle.slh_dsa_c.specs.Status.{error_number, in_set, number_of_refusal}
use Rattle.slh_sets.specs.Sets.{scheme_numbered}
use Rattle.slh_stream.specs.Passes.{pass_refusal, randomizer_for}
use Rattle.slh_stream.specs.SuspendedPass.{IsEnded, IsFirstAside, IsSecondAside}
use Rattle.slh_stream.specs.declared.pass_error.PassError.{PassError}
use Rattle.slh_stream.specs.declared.pass_error.PassError.TheVariants.{Length, Changed}
use Rattle.slh_stream.specs.declared.suspended_pass.SuspendedPass.{SuspendedPass}
use Rattle.slh_core.specs.Refusals.{first_refusal}

-- why no pass begins: what signing the empty message is refused for, but for the room that it has
abbrev pub begin_refusal : Scheme → List ℕ → List ℕ → Option (List ℕ) → Option Error
begin_refusal Z key context opt_rand = first_refusal
    (signing_key_refusal Z key ∷ sign_input_refusal Z context opt_rand [] ∷ [])

abbrev pub begin_status : ℕ → List ℕ → List ℕ → Option (List ℕ) → ℕ
begin_status set key context opt_rand = in_set (scheme_numbered set) (λ Z.
    number_of_refusal (begin_refusal Z key context opt_rand))

-- the numbers of the passes
abbrev pub pass_numbered : ℕ → Option Pass
pass_numbered pass = if pass == 1 then Some First else if pass == 2 then Some Second else None

-- The state of a pass stands for the bytes of a signing key, a randomizer, or none, a context and a
-- message; in the second pass also for the R that the first has made.
abbrev pub IsAside : ℕ → Pass → SuspendedPass → List ℕ → Option (List ℕ) → List ℕ → List ℕ → List ℕ
    → Type 0
IsAside n First state key opt_rand context rand message =
    IsFirstAside n state key opt_rand context message
IsAside n Second state key opt_rand context rand message =
    IsSecondAside n state key opt_rand context rand message

-- the same in the pass of a number
abbrev pub StandsIn : Scheme → ℕ → SuspendedPass → List ℕ → Option (List ℕ) → List ℕ → List ℕ
    → List ℕ → Type 0
StandsIn Z pass state key opt_rand context rand message = MatchOption (pass_numbered pass) ⊥ (λ p.
    IsAside Z.n p state key opt_rand context rand message)

-- the same in the set and the pass that the signer has
abbrev pub Signs : CSigner → List ℕ → Option (List ℕ) → List ℕ → List ℕ → List ℕ → Type 0
Signs signer key opt_rand context rand message = MatchOption (scheme_numbered signer.set) ⊥ (λ Z.
    StandsIn Z signer.pass signer.state key opt_rand context rand message)

-- no signing was begun as this signer: its set or its pass has no number
abbrev pub IsNone : CSigner → Type 0
IsNone signer = MatchOption (scheme_numbered signer.set) (Unit {0}) (λ _.
    pass_numbered signer.pass ≡ None)

-- more bytes of a message were counted than there may be
abbrev pub IsOverfull : CSigner → Type 0
IsOverfull signer = MAX_MESSAGE < signer.state.numbers.taken

-- What holds of each signer that ends in a signature, whatever its numbers are: it has a set and is
-- in the second pass, and PRF_msg of what it has absorbed is its R.
abbrev pub Ends : CSigner → List ℕ → List ℕ → Type 0
Ends signer key sig = MatchOption (scheme_numbered signer.set) ⊥ (λ Z.
    (signer.pass ≡ 2) × IsEnded Z Z.n signer.state key sig)

-- bytes that a set gives, none where no set has the number
abbrev pub bytes_in : Option Scheme → (Scheme → List ℕ) → List ℕ
bytes_in None bytes = []
bytes_in (Some Z) bytes = bytes Z

-- R of a message in the set of a number
abbrev pub randomizer_in : ℕ → List ℕ → Option (List ℕ) → List ℕ → List ℕ
randomizer_in set key opt_rand message =
    bytes_in (scheme_numbered set) (λ Z. randomizer_for Z key opt_rand message)

-- the numbers of the causes for which a pass ends without a signature
abbrev pub pass_number : Option PassError → ℕ
pass_number None = 0
pass_number (Some Length) = 5
pass_number (Some Changed) = 21

-- a number, unless there is a refusal
abbrev pub number_unless : Option Error → ℕ → ℕ
number_unless None number = number
number_unless (Some refusal) number = error_number refusal

-- what the end of the second pass answers, with a key again, into so many bytes
unfoldable pub finish_number : Scheme → List ℕ → Option (List ℕ) → List ℕ → List ℕ → ℕ → ℕ
finish_number Z key opt_rand message rand len = number_unless (signing_key_refusal Z key)
    (pass_number (pass_refusal Z key opt_rand message rand len))

abbrev pub finish_status : ℕ → List ℕ → Option (List ℕ) → List ℕ → List ℕ → ℕ → ℕ
finish_status set key opt_rand message rand len = in_set (scheme_numbered set) (λ Z.
    finish_number Z key opt_rand message rand len)

-- another key has the length of a signing key, and another PRF key, public seed or root than the one
-- with which a pass was begun
abbrev pub IsOtherKey : Scheme → List ℕ → List ℕ → Type 0
IsOtherKey Z key begun = (length key ≡ 4 * Z.n)
    × ((part Z.n begun 1 ≡ part Z.n key 1) × (part Z.n begun 2 ≡ part Z.n key 2)
    × (part Z.n begun 3 ≡ part Z.n key 3) → ⊥)

abbrev pub IsOtherKeyIn : ℕ → List ℕ → List ℕ → Type 0
IsOtherKeyIn set key begun = MatchOption (scheme_numbered set) ⊥ (λ Z. IsOtherKey Z key begun)

-- in the set of a number, the bytes are more or less than those of a signing key
abbrev pub HasOtherLength : ℕ → List ℕ → Type 0
HasOtherLength set key = MatchOption (scheme_numbered set) ⊥ (λ Z. length key ≢ 4 * Z.n)
