-- What opening a log's checkpoint and checking proofs against it answers, by the numbers of the
-- header.
use Rattle.std.specs.Prelude.{◌≡◌, ◌≢◌, ℕ, ◌+◌, ◌*◌, ◌/◌, ◌%◌, ◌==◌, List, [], length, nat_lt}
use Rattle.std.specs.Prelude.{if◌then◌else◌, Option, None, Some, Result, IfErr, IfOk}
use Rattle.std.specs.Simd.{first_chunks}
use Rattle.slh_core.specs.Parameters.{Scheme}
use Rattle.slh_dsa_c.specs.Status.{in_named_set, status_of}
use Rattle.slh_dsa_c.specs.declared.logs.CHead.{CHead}
use Rattle.slh_log.specs.Calls.{growth_refusal, open_refusal, presence_refusal}
use Rattle.slh_log.specs.Reading.{read_root, read_size, text_of}
use Rattle.slh_log.specs.declared.error.GrowthError.{GrowthError}
use Rattle.slh_log.specs.declared.error.GrowthError.TheVariants as growth
use Rattle.slh_log.specs.declared.error.OpenError.{OpenError}
use Rattle.slh_log.specs.declared.error.OpenError.TheVariants as opening
use Rattle.slh_log.specs.declared.error.PresenceError.{PresenceError}
use Rattle.slh_log.specs.declared.error.PresenceError.TheVariants as presence
use Rattle.slh_sets.specs.Sets.{set_numbered}
use Rattle.slh_trees.specs.Checking.{signature_size}

-- the numbers of the causes
abbrev pub open_number : OpenError → ℕ
open_number opening.Form = 14
open_number opening.Origin = 17
open_number opening.Unsigned = 18
open_number opening.Invalid = 1

abbrev pub presence_number : PresenceError → ℕ
presence_number presence.Index = 16
presence_number presence.Entry = 8
presence_number presence.Length = 5
presence_number presence.Invalid = 1

abbrev pub growth_number : GrowthError → ℕ
growth_number growth.Empty = 19
growth_number growth.Smaller = 20
growth_number growth.Length = 5
growth_number growth.Invalid = 1

abbrev pub number_of_open : Option OpenError → ℕ
number_of_open None = 0
number_of_open (Some refusal) = open_number refusal

abbrev pub number_of_presence : Option PresenceError → ℕ
number_of_presence None = 0
number_of_presence (Some refusal) = presence_number refusal

abbrev pub number_of_growth : Option GrowthError → ℕ
number_of_growth None = 0
number_of_growth (Some refusal) = growth_number refusal

-- why a checkpoint isn't opened by a verifying key's bytes of a set, which is seen as its name, with
-- a buffer of so many bytes
abbrev pub log_open_number : Scheme → List ℕ → List ℕ → List ℕ → List ℕ → ℕ → ℕ
log_open_number Z set key origin checkpoint len =
    if length key == 2 * Z.n
    then (if nat_lt len (4 + signature_size Z) then 5
    else number_of_open (open_refusal Z set key (text_of origin) checkpoint))
    else 5

-- what opening answers: the head that the checkpoint says, or such a number
pub record IsOpened (Z : Scheme) (set key origin checkpoint : List ℕ) (len : ℕ)
    (result : Result CHead ℕ) : Type 0 where
  pub status : status_of result ≡ log_open_number Z set key origin checkpoint len
  pub size : IfOk result (λ head. read_size checkpoint ≡ Some head.size)
  pub root : IfOk result (λ head. read_root checkpoint ≡ Some head.root)
  pub refused : IfErr result (λ number. number ≢ 0)

abbrev pub log_open_status : ℕ → List ℕ → List ℕ → List ℕ → ℕ → ℕ
log_open_status set key origin checkpoint len = in_named_set (set_numbered set) (λ Z name.
    log_open_number Z name key origin checkpoint len)

-- what the digests of a proof are answered, or 5 where the bytes are none
abbrev pub in_digests : List ℕ → (List (List ℕ) → ℕ) → ℕ
in_digests proof number =
    if length proof % 32 == 0 then number (first_chunks 32 (length proof / 32) proof) else 5

-- why a proof doesn't show that entry `index` of a log is this one
abbrev pub presence_status : CHead → ℕ → List ℕ → List ℕ → ℕ
presence_status head index entry proof = in_digests proof (λ digests.
    number_of_presence (presence_refusal head.size head.root index entry digests))

-- why a proof doesn't show that one log grew into another
abbrev pub growth_status : CHead → CHead → List ℕ → ℕ
growth_status old new proof = in_digests proof (λ digests.
    number_of_growth (growth_refusal old.size old.root new.size new.root digests))
