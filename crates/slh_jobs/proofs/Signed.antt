-- What signing writes is what is judged.
use Rattle.std.proofs.Common.{◌≡◌, ℕ, List, ◌++◌, length, take, drop, Option, None, Ok, refl, inl}
use Rattle.std.proofs.Math.Seq.{take-append_seam}
use Rattle.slh_core.specs.Parameters.{Scheme}
use Rattle.slh_dsa.specs.Calls.{sign_input_refusal, signing_key_refusal}
use Rattle.slh_frames.specs.Frames.{mode_frame}
use Rattle.slh_frames.specs.declared.frame.Mode.{Mode}
use Rattle.slh_jobs.specs.Judgement.{IsJudged}
use Rattle.slh_jobs.specs.declared.job.Answer.TheVariants.{Signature}
use Rattle.slh_jobs.specs.declared.job.Job.TheVariants.{Sign}
use Rattle.slh_trees.specs.Signing.{signature_of}

-- bytes that are written over whole are those that were written
pub written : (new old : List ℕ) → length new ≡ length old → take (length old) (new ++ drop (length new) old) ≡ new
written new old size = rw (← size) (take-append_seam new (drop (length new) old))

pub signed_is_judged : (Z : Scheme) (mode : Mode) (key context message : List ℕ) (opt_rand : Option (List ℕ)) (signature : List ℕ)
    → signing_key_refusal Z key ≡ None → sign_input_refusal Z context opt_rand message ≡ None
    → signature ≡ signature_of Z key opt_rand (mode_frame mode context message)
    → IsJudged Z (Sign mode key context message opt_rand) (Ok (Signature signature))
signed_is_judged Z mode key context message opt_rand signature key_fits fits made = inl (rw (key_fits, fits, made) refl)
