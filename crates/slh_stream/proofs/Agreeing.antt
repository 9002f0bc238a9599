-- Refusals for a digest and for its message.
use Rattle.std.proofs.Common.{◌≡◌, ℕ, ◌^◌, ◌<◌, ◌≤◌, List, length, true, [], ◌∷◌, Option, Some, None, refl}
use Rattle.std.proofs.lemmas.Bool.{le-ltb, lt-ltb}
use Rattle.std.proofs.lemmas.Slice.Eq.{bytes_eq-Decides}
use Rattle.std.specs.Str.{bytes_eq}
use Rattle.sha256_lanes.proofs.Digest.{length-sha256}
use Rattle.sha256_lanes.specs.Sha256.{sha256}
use Rattle.sha2.proofs.Facts512.{length-sha512}
use Rattle.sha2.specs.Sha512.{sha512}
use Rattle.slh_core.specs.Parameters.{Scheme}
use Rattle.slh_dsa.specs.Calls.{hash_verify_error, root_refusal, signature_refusal}
use Rattle.slh_frames.specs.Frames.{mode_frame}
use Rattle.slh_dsa.specs.declared.error.Error.{Error}
use Rattle.slh_dsa.specs.declared.error.Error.TheVariants.{Length, ContextTooLong, MessageTooLong}
use Rattle.slh_frames.specs.declared.frame.Mode.TheVariants.{Sha256, Sha512}
use Rattle.slh_stream.specs.Digests.{verify_digest_error}
use Rattle.slh_core.specs.Refusals.{context_refusal, first_refusal, length_refusal, message_refusal}

in_another_order : (a d c m r : Option Error) → d ≡ None → m ≡ None
    → first_refusal (a ∷ d ∷ c ∷ r ∷ []) ≡ first_refusal (first_refusal (a ∷ c ∷ m ∷ []) ∷ r ∷ [])
in_another_order (Some e) d c m r is_d is_m = refl
in_another_order None d (Some e) m r is_d is_m = rw is_d refl
in_another_order None d None m None is_d is_m = rw (is_d, is_m) refl
in_another_order None d None m (Some e) is_d is_m = rw (is_d, is_m) refl

pub fits : (m : List ℕ) → length m ≤ 2 ^ 60 → message_refusal MessageTooLong m ≡ None
fits m short = rw (le-ltb (2 ^ 60) (length m) short) refl

pub too_long : (m : List ℕ) → 2 ^ 60 < length m → message_refusal MessageTooLong m ≡ Some MessageTooLong
too_long m more = rw (lt-ltb (2 ^ 60) (length m) more) refl

pub answer_256 : (Z : Scheme) (key context m sig : List ℕ) → length m ≤ 2 ^ 60
    → verify_digest_error Z Sha256 key context (sha256 m) sig ≡ hash_verify_error Z Sha256 key context m sig
answer_256 Z key context m sig short =
    in_another_order (signature_refusal Z (length sig)) (length_refusal Length 32 (length (sha256 m))) (context_refusal ContextTooLong context)
    (message_refusal MessageTooLong m) (root_refusal Z key (mode_frame Sha256 context m) sig)
    (rw (length-sha256 m) refl) (fits m short)

pub answer_512 : (Z : Scheme) (key context m sig : List ℕ) → length m ≤ 2 ^ 60
    → verify_digest_error Z Sha512 key context (sha512 m) sig ≡ hash_verify_error Z Sha512 key context m sig
answer_512 Z key context m sig short =
    in_another_order (signature_refusal Z (length sig)) (length_refusal Length 64 (length (sha512 m))) (context_refusal ContextTooLong context)
    (message_refusal MessageTooLong m) (root_refusal Z key (mode_frame Sha512 context m) sig)
    (rw (length-sha512 m) refl) (fits m short)

pub same_bytes : (a : List ℕ) → bytes_eq a a ≡ true
same_bytes a = (bytes_eq-Decides a a).1 refl
