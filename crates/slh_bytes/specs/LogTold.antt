-- What is told of what was found: an outcome, or none where it is refused.
use Rattle.std.specs.Prelude.{◌≡◌, Option, None, Some, Result, Ok, Err}
use Rattle.slh_bytes.specs.declared.outcome.Outcome.{Outcome}
use Rattle.slh_bytes.specs.declared.outcome.Outcome.TheVariants.{Accepted}
use Rattle.slh_bytes.specs.declared.outcome.Outcome.TheVariants.{Invalid as InvalidOutcome}
use Rattle.slh_log.specs.declared.error.OpenError.{OpenError}
use Rattle.slh_log.specs.declared.error.OpenError.TheVariants.{Form, Origin, Unsigned}
use Rattle.slh_log.specs.declared.error.OpenError.TheVariants.{Invalid as InvalidHead}
use Rattle.slh_log.specs.declared.error.PresenceError.TheVariants.{Index, Entry, Length}
use Rattle.slh_log.specs.declared.error.PresenceError.TheVariants.{Invalid as InvalidPath}
use Rattle.slh_log.specs.declared.error.GrowthError.TheVariants.{Empty, Smaller}
use Rattle.slh_log.specs.declared.error.GrowthError.TheVariants.{Length as ProofLength}
use Rattle.slh_log.specs.declared.error.GrowthError.TheVariants.{Invalid as InvalidProof}
use Rattle.slh_bytes.specs.declared.log_verdicts.EntryError.{EntryError}
use Rattle.slh_bytes.specs.declared.log_verdicts.EntryError.TheVariants.{Head, Path}
use Rattle.slh_bytes.specs.declared.log_verdicts.HeadError.{HeadError}
use Rattle.slh_bytes.specs.declared.log_verdicts.HeadError.TheVariants.{Unopened, OtherRoot}
use Rattle.slh_bytes.specs.declared.log_verdicts.LogError.{LogError}
use Rattle.slh_bytes.specs.declared.log_verdicts.LogError.TheVariants.{Old, New, Proof}

-- this outcome, or a failure where there is none
abbrev pub IsTold : {E : Type 0} → Option Outcome → Result Outcome E → Type 0
IsTold told (Ok outcome) = told ≡ Some outcome
IsTold told (Err failure) = told ≡ None

-- what is told of a checkpoint that isn't opened
abbrev pub head_told : OpenError → Option Outcome
head_told Form = None
head_told Origin = None
head_told Unsigned = None
head_told InvalidHead = Some InvalidOutcome

-- what is told of an entry
abbrev pub entry_told : Result (Unit {0}) EntryError → Option Outcome
entry_told (Ok _) = Some Accepted
entry_told (Err (Head error)) = head_told error
entry_told (Err (Path Index)) = None
entry_told (Err (Path Entry)) = None
entry_told (Err (Path Length)) = None
entry_told (Err (Path InvalidPath)) = Some InvalidOutcome

-- what is told of a growth
abbrev pub growth_told : Result (Unit {0}) LogError → Option Outcome
growth_told (Ok _) = Some Accepted
growth_told (Err (Old error)) = head_told error
growth_told (Err (New error)) = head_told error
growth_told (Err (Proof Empty)) = None
growth_told (Err (Proof Smaller)) = None
growth_told (Err (Proof ProofLength)) = None
growth_told (Err (Proof InvalidProof)) = Some InvalidOutcome

-- what is told of the checkpoint of a log whose entries have been read
abbrev pub check_told : Result (Unit {0}) HeadError → Option Outcome
check_told (Ok _) = Some Accepted
check_told (Err (Unopened error)) = head_told error
check_told (Err OtherRoot) = Some InvalidOutcome
