-- What a verification in pieces stands for as C keeps it, and what its calls answer.
use Rattle.std.specs.Prelude.{◌≡◌, ◌≢◌, ℕ, ◌*◌, ◌<◌, List, [], ◌∷◌, length, take, nat_lt}
use Rattle.std.specs.Prelude.{Option, None, MatchOption, if◌then◌else◌}
use Rattle.slh_core.specs.Parameters.{Scheme}
use Rattle.slh_dsa.specs.Calls.{verify_refusal, verifying_key_refusal}
use Rattle.slh_dsa.specs.declared.error.Error.{Error}
use Rattle.slh_frames.specs.declared.message.TheConstants.{MAX_MESSAGE}
use Rattle.slh_dsa_c.specs.declared.verify_pieces.CVerifier.{CVerifier}
use Rattle.slh_dsa_c.specs.Numbers.{mode_numbered}
use Rattle.slh_dsa_c.specs.Status.{in_mode, in_set, number_of_refusal}
use Rattle.slh_sets.specs.Sets.{scheme_numbered}
use Rattle.slh_stream.specs.Suspended.{IsAccepted, IsSuspended}
use Rattle.slh_stream.specs.declared.suspended.SuspendedVerifier.{SuspendedVerifier}
use Rattle.slh_trees.specs.Checking.{signature_size}
use Rattle.slh_core.specs.Refusals.{first_refusal}

-- why no verification begins: what verifying the empty message is refused for before it looks at the
-- signature
abbrev pub begin_refusal : Scheme → List ℕ → List ℕ → List ℕ → Option Error
begin_refusal Z key context sig = first_refusal
    (verifying_key_refusal Z key ∷ verify_refusal Z context [] sig ∷ [])

abbrev pub begin_number : Scheme → ℕ → List ℕ → List ℕ → List ℕ → ℕ
begin_number Z mode key context sig = in_mode (mode_numbered mode) (λ _.
    number_of_refusal (begin_refusal Z key context sig))

abbrev pub begin_status : ℕ → ℕ → List ℕ → List ℕ → List ℕ → ℕ
begin_status set mode key context sig = in_set (scheme_numbered set) (λ Z.
    begin_number Z mode key context sig)

-- what absorbing a piece answers where a message comes of it: 8 where it is too long
abbrev pub update_number : List ℕ → ℕ
update_number message = if nat_lt MAX_MESSAGE (length message) then 8 else 0

-- in a set and the mode of a number, the state stands for the bytes of a verifying key, a context,
-- a signature by its randomizer, and a message
abbrev pub StandsIn : Scheme → ℕ → SuspendedVerifier → List ℕ → List ℕ → List ℕ → List ℕ → Type 0
StandsIn Z mode state key context sig message = MatchOption (mode_numbered mode) ⊥ (λ m.
    (length key ≡ 2 * Z.n) × IsSuspended Z.n state m key context (take Z.n sig) message)

-- the same in the set and the mode that the verifier has
abbrev pub Verifies : CVerifier → List ℕ → List ℕ → List ℕ → List ℕ → Type 0
Verifies verifier key context sig message = MatchOption (scheme_numbered verifier.set) ⊥ (λ Z.
    StandsIn Z verifier.mode verifier.state key context sig message)

-- no verification was begun as this verifier: its set or its mode has no number
abbrev pub IsNone : CVerifier → Type 0
IsNone verifier = MatchOption (scheme_numbered verifier.set) (Unit {0}) (λ _.
    mode_numbered verifier.mode ≡ None)

-- more bytes of a message were counted than there may be
abbrev pub IsOverfull : CVerifier → Type 0
IsOverfull verifier = MAX_MESSAGE < verifier.state.numbers.taken

-- What holds of each verifier by which a signature is accepted, whatever its numbers are: it has a
-- set and a mode, and in them the signature leads to its root.
abbrev pub Accepts : CVerifier → List ℕ → Type 0
Accepts verifier sig = MatchOption (scheme_numbered verifier.set) ⊥ (λ Z.
    MatchOption (mode_numbered verifier.mode) ⊥ (λ m.
    IsAccepted Z Z.n verifier.state m sig))

-- in the set of a number, the bytes have the length of a signature, and another randomizer than the
-- signature with which a verification was begun
abbrev pub HasOtherRandomizer : ℕ → List ℕ → List ℕ → Type 0
HasOtherRandomizer set sig begun = MatchOption (scheme_numbered set) ⊥ (λ Z.
    (length sig ≡ signature_size Z) × (take Z.n sig ≢ take Z.n begun))

-- in the set of a number, the bytes are more or less than those of a signature
abbrev pub HasOtherLength : ℕ → List ℕ → Type 0
HasOtherLength set sig = MatchOption (scheme_numbered set) ⊥ (λ Z.
    length sig ≢ signature_size Z)
