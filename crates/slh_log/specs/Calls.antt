-- When a call is refused.
use Rattle.std.specs.Prelude.{ℕ, ◌+◌, ◌==◌, ◌&&◌, List, [], ◌∷◌, length, drop}
use Rattle.std.specs.Prelude.{nat_lt, Option, None, Some, if◌then◌else◌}
use Rattle.std.specs.Str.{bytes_eq}
use Rattle.merkle_tree.specs.Climb.{is_included, path_sides}
use Rattle.merkle_tree.specs.Consistency.{is_consistent, proof_len}
use Rattle.merkle_tree.specs.Tree.{leaf_hash}
use Rattle.sha256_lanes.specs.Sha256.{sha256}
use Rattle.slh_core.specs.Parameters.{Scheme}
use Rattle.slh_dsa.specs.Calls.{is_valid}
use Rattle.slh_frames.specs.declared.frame.Mode.TheVariants.{Pure}
use Rattle.slh_trees.specs.Checking.{signature_size}
use Rattle.slh_core.specs.Refusals.{first_refusal, length_refusal, message_refusal}
use Rattle.slh_core.specs.Refusals.{randomizer_refusal}
use Rattle.line_serve.specs.Lines.{parts}
use Rattle.slh_log.specs.Reading.{after_text, has_form, is_origin, line_at, own_signature}
use Rattle.slh_log.specs.Reading.{read_text}
use Rattle.slh_log.specs.Texts.{key_id, log_context}
use Rattle.slh_log.specs.declared.error.CheckpointError.{CheckpointError}
use Rattle.slh_log.specs.declared.error.CheckpointError.TheVariants.{Origin as BadOrigin}
use Rattle.slh_log.specs.declared.error.CheckpointError.TheVariants.{Randomizer}
use Rattle.slh_log.specs.declared.error.OpenError.{OpenError}
use Rattle.slh_log.specs.declared.error.OpenError.TheVariants.{Form, Origin, Unsigned}
use Rattle.slh_log.specs.declared.error.OpenError.TheVariants.{Invalid as InvalidSignature}
use Rattle.slh_log.specs.declared.error.PresenceError.{PresenceError}
use Rattle.slh_log.specs.declared.error.PresenceError.TheVariants.{Index, Entry, Length, Invalid}
use Rattle.slh_log.specs.declared.error.GrowthError.{GrowthError}
use Rattle.slh_log.specs.declared.error.GrowthError.TheVariants.{Empty, Smaller}
use Rattle.slh_log.specs.declared.error.GrowthError.TheVariants.{Length as ProofLength}
use Rattle.slh_log.specs.declared.error.GrowthError.TheVariants.{Invalid as InvalidProof}

-- why no checkpoint is made
abbrev pub checkpoint_refusal : Scheme → List ℕ → Option (List ℕ) → Option CheckpointError
checkpoint_refusal Z origin opt_rand = first_refusal
    ((if is_origin origin then None else Some BadOrigin)
    ∷ randomizer_refusal Randomizer Z.n opt_rand ∷ [])

-- the bytes have the form of a checkpoint
abbrev pub form_refusal : List ℕ → Option OpenError
form_refusal bytes = if has_form bytes then None else Some Form

-- the first line is the origin that is asked for
abbrev pub origin_refusal : List ℕ → List ℕ → Option OpenError
origin_refusal origin bytes =
    if is_origin origin && bytes_eq (line_at bytes 0) origin then None else Some Origin

-- the first line of a signature by the key of this origin, of a set that is seen as its name
abbrev pub read_signature : Scheme → List ℕ → List ℕ → List ℕ → List ℕ → Option (List ℕ)
read_signature Z set key origin bytes =
    own_signature (4 + signature_size Z) origin (key_id origin set key) (after_text (parts bytes))

-- there is such a line, and its signature is one of the text
abbrev pub signature_refusal : Scheme → List ℕ → List ℕ → Option (List ℕ) → Option OpenError
signature_refusal Z key text None = Some Unsigned
signature_refusal Z key text (Some signed) =
    if is_valid Z Pure key log_context text (drop 4 signed) then None else Some InvalidSignature

-- why a checkpoint isn't opened by a verifying key of a set under an origin
abbrev pub open_refusal : Scheme → List ℕ → List ℕ → List ℕ → List ℕ → Option OpenError
open_refusal Z set key origin bytes = first_refusal
    (form_refusal bytes ∷ origin_refusal origin bytes
    ∷ signature_refusal Z key (read_text bytes) (read_signature Z set key origin bytes) ∷ [])

-- there is an entry with this index among so many
abbrev pub index_refusal : ℕ → ℕ → Option PresenceError
index_refusal index size = if nat_lt index size then None else Some Index

-- why a path doesn't show that the digest of entry `index` of a log is `leaf`
abbrev pub leaf_refusal : ℕ → List ℕ → ℕ → List ℕ → List (List ℕ) → Option PresenceError
leaf_refusal size root index leaf proof = first_refusal
    (index_refusal index size
    ∷ length_refusal Length (length (path_sides index size)) (length proof)
    ∷ (if is_included sha256 index size leaf root proof then None else Some Invalid) ∷ [])

-- likewise that entry `index` is this one
abbrev pub presence_refusal : ℕ → List ℕ → ℕ → List ℕ → List (List ℕ) → Option PresenceError
presence_refusal size root index entry proof = first_refusal
    (index_refusal index size ∷ message_refusal Entry entry
    ∷ leaf_refusal size root index (leaf_hash sha256 entry) proof ∷ [])

-- the old log isn't empty, and not larger than the new
abbrev pub empty_refusal : ℕ → Option GrowthError
empty_refusal old_size = if old_size == 0 then Some Empty else None

abbrev pub smaller_refusal : ℕ → ℕ → Option GrowthError
smaller_refusal old_size new_size = if nat_lt new_size old_size then Some Smaller else None

-- why a proof doesn't show that one log grew into another
abbrev pub growth_refusal : ℕ → List ℕ → ℕ → List ℕ → List (List ℕ) → Option GrowthError
growth_refusal old_size old_root new_size new_root proof = first_refusal
    (empty_refusal old_size ∷ smaller_refusal old_size new_size
    ∷ length_refusal ProofLength (proof_len old_size new_size) (length proof)
    ∷ (if is_consistent sha256 old_size new_size old_root new_root proof
    then None else Some InvalidProof) ∷ [])
