-- Algorithms 22 to 25 in the modes of the calls.
use Rattle.std.proofs.Common.{◌≡◌, ℕ, ◌^◌, ◌≤◌, ◌==◌, List, [], ◌∷◌, ◌++◌, length, nat_lt, true, false, Option, None, Some, inl, inr, refl, sym, ap, ◌∙◌, subst}
use Rattle.std.proofs.lemmas.Bool.{le-ltb, lt-ltb, cases_lt}
use Rattle.std.proofs.lemmas.Bool.Decides.{Decides-eqb}
use Rattle.std.proofs.lemmas.Slice.Eq.{bytes_eq-Decides}
use Rattle.std.specs.Str.{bytes_eq}
use Rattle.slh_core.specs.Bytes.{part}
use Rattle.slh_core.specs.Parameters.{Scheme}
use Rattle.slh_dsa.specs.Calls.{hash_verify_error, opt_rand_refusal, root_refusal, sign_input_refusal, verify_refusal}
use Rattle.slh_frames.specs.Frames.{mode_frame, sha256_identifier, sha512_identifier}
use Rattle.slh_dsa.specs.declared.error.Error.{Error}
use Rattle.slh_dsa.specs.declared.error.Error.TheVariants.{Length, ContextTooLong, MessageTooLong}
use Rattle.slh_frames.specs.declared.frame.Mode.{Mode}
use Rattle.slh_frames.specs.declared.frame.Mode.TheVariants.{Pure, Sha256, Sha512}
use Rattle.slh_core.proofs.Refusals.{first_none, at_most, passed}
use Rattle.slh_trees.specs.Checking.{checked_root, signature_size}
use Rattle.slh_trees.specs.Signing.{signature_of}
use Rattle.slh_core.specs.Refusals.{context_refusal, length_refusal, message_refusal}
use Rattle.sha256_lanes.specs.Sha256.{sha256}
use Rattle.sha2.specs.Sha512.{sha512}
use Rattle.fips205_law.proofs.External.{hash_messages, hash_signs, hash_verifies, signs, verifies}
use Rattle.fips205_law.specs.External.{sha256_oid, sha512_oid}
use Rattle.fips205_law.specs.Law.{IsRow, secret_key_of}
use Rattle.fips205_law.specs.Parameters.{instance_of}
use Rattle.fips205_sets_law.specs.Modes.{accepted_in, sha256_pre_hash, sha512_pre_hash, signed_in, verifying_parts}

-- the frame of a mode with a digest
abbrev hashed_frame : List ℕ → List ℕ → List ℕ → List ℕ
hashed_frame ctx oid digest = (1 ∷ length ctx ∷ []) ++ ctx ++ (oid ++ digest)

frame_256 : (ctx M : List ℕ) → hashed_frame ctx sha256_oid (sha256 M) ≡ mode_frame Sha256 ctx M
frame_256 ctx M = ap (λ oid. hashed_frame ctx oid (sha256 M)) hash_messages.sha256

frame_512 : (ctx M : List ℕ) → hashed_frame ctx sha512_oid (sha512 M) ≡ mode_frame Sha512 ctx M
frame_512 ctx M = ap (λ oid. hashed_frame ctx oid (sha512 M)) hash_messages.sha512

pub signed_at : (Z : Scheme) → IsRow Z → (mode : Mode) (key ctx M : List ℕ) (addrnd : Option (List ℕ)) → length ctx ≤ 255
    → signed_in mode (instance_of Z) M ctx (secret_key_of Z.n key) addrnd ≡ Some (signature_of Z key addrnd (mode_frame mode ctx M))
signed_at Z row Pure key ctx M addrnd short = signs.signed Z key ctx M addrnd row short
signed_at Z row Sha256 key ctx M addrnd short =
    hash_signs.signed Z key ctx M sha256_pre_hash addrnd row short ∙ ap (λ m. Some (signature_of Z key addrnd m)) (frame_256 ctx M)
signed_at Z row Sha512 key ctx M addrnd short =
    hash_signs.signed Z key ctx M sha512_pre_hash addrnd row short ∙ ap (λ m. Some (signature_of Z key addrnd m)) (frame_512 ctx M)

none_at : (Z : Scheme) (mode : Mode) (key ctx M : List ℕ) (addrnd : Option (List ℕ)) → nat_lt 255 (length ctx) ≡ true
    → signed_in mode (instance_of Z) M ctx (secret_key_of Z.n key) addrnd ≡ None
none_at Z Pure key ctx M addrnd long = rw long refl
none_at Z Sha256 key ctx M addrnd long = rw long refl
none_at Z Sha512 key ctx M addrnd long = rw long refl

-- the first refusal of signing is that of the context
long_refused : (Z : Scheme) (ctx M : List ℕ) (addrnd : Option (List ℕ)) → nat_lt 255 (length ctx) ≡ true → sign_input_refusal Z ctx addrnd M ≡ Some ContextTooLong
long_refused Z ctx M addrnd long = rw long refl

-- and where the context is short it is another one
short_other : (Z : Scheme) (ctx M : List ℕ) (addrnd : Option (List ℕ)) {P : Type 0} → length ctx ≤ 255 → sign_input_refusal Z ctx addrnd M ≡ Some ContextTooLong → P
short_other Z ctx M None short is =
    absurd (elim (nat_lt (2 ^ 60) (length M)) as (λ v. nat_lt (2 ^ 60) (length M) ≡ v → ⊥) [
      | true ↦ λ long. cc (rw (le-ltb 255 (length ctx) short, long) at is)
      | false ↦ λ few. cc (rw (le-ltb 255 (length ctx) short, few) at is)
    ] refl)
short_other Z ctx M (Some bytes) short is =
    absurd (elim (length bytes == Z.n) as (λ v. (length bytes == Z.n) ≡ v → ⊥) [
      | true ↦ λ fits. elim (nat_lt (2 ^ 60) (length M)) as (λ v. nat_lt (2 ^ 60) (length M) ≡ v → ⊥) [
        | true ↦ λ long. cc (rw (le-ltb 255 (length ctx) short, fits, long) at is)
        | false ↦ λ few. cc (rw (le-ltb 255 (length ctx) short, fits, few) at is)
      ] refl
      | false ↦ λ other. cc (rw (le-ltb 255 (length ctx) short, other) at is)
    ] refl)

pub refused_at : (Z : Scheme) (mode : Mode) (key ctx M : List ℕ) (addrnd : Option (List ℕ)) → sign_input_refusal Z ctx addrnd M ≡ Some ContextTooLong
    → signed_in mode (instance_of Z) M ctx (secret_key_of Z.n key) addrnd ≡ None
refused_at Z mode key ctx M addrnd is = elim (cases_lt 255 (length ctx)) [
  | inl long ↦ none_at Z mode key ctx M addrnd (lt-ltb 255 (length ctx) long)
  | inr short ↦ short_other Z ctx M addrnd short is
]

pub refused_only_at : (Z : Scheme) → IsRow Z → (mode : Mode) (key ctx M : List ℕ) (addrnd : Option (List ℕ))
    → signed_in mode (instance_of Z) M ctx (secret_key_of Z.n key) addrnd ≡ None → sign_input_refusal Z ctx addrnd M ≡ Some ContextTooLong
refused_only_at Z row mode key ctx M addrnd none = elim (cases_lt 255 (length ctx)) [
  | inl long ↦ long_refused Z ctx M addrnd (lt-ltb 255 (length ctx) long)
  | inr short ↦ absurd (let made = signed_at Z row mode key ctx M addrnd short in cc (made, none))
]

-- what is accepted: the sizes, and the root that the signature of the frame leads to
record IsAccepted (Z : Scheme) (key ctx framed SIG : List ℕ) : Type 0 where
  short : length ctx ≤ 255
  whole : length SIG ≡ signature_size Z
  leads : checked_root Z (part Z.n key 0) (part Z.n key 1) framed SIG ≡ part Z.n key 1

standard_of : (Z : Scheme) → IsRow Z → (mode : Mode) (key ctx M SIG : List ℕ) → IsAccepted Z key ctx (mode_frame mode ctx M) SIG
    → accepted_in mode (instance_of Z) M SIG ctx (verifying_parts Z.n key)
standard_of Z row Pure key ctx M SIG is =
    verifies.always Z (part Z.n key 0) (part Z.n key 1) ctx M SIG row (is.short, (is.whole, is.leads))
standard_of Z row Sha256 key ctx M SIG is =
    hash_verifies.always Z (part Z.n key 0) (part Z.n key 1) ctx M SIG sha256_pre_hash row (is.short, (is.whole, rw (frame_256 ctx M) is.leads))
standard_of Z row Sha512 key ctx M SIG is =
    hash_verifies.always Z (part Z.n key 0) (part Z.n key 1) ctx M SIG sha512_pre_hash row (is.short, (is.whole, rw (frame_512 ctx M) is.leads))

of_standard : (Z : Scheme) → IsRow Z → (mode : Mode) (key ctx M SIG : List ℕ) → accepted_in mode (instance_of Z) M SIG ctx (verifying_parts Z.n key)
    → IsAccepted Z key ctx (mode_frame mode ctx M) SIG
of_standard Z row Pure key ctx M SIG ok =
    let is = verifies.only Z (part Z.n key 0) (part Z.n key 1) ctx M SIG row ok in
    record { short = is.0; whole = is.1.0; leads = is.1.1 }
of_standard Z row Sha256 key ctx M SIG ok =
    let is = hash_verifies.only Z (part Z.n key 0) (part Z.n key 1) ctx M SIG sha256_pre_hash row ok in
    record { short = is.0; whole = is.1.0; leads = rw (frame_256 ctx M) at is.1.1 }
of_standard Z row Sha512 key ctx M SIG ok =
    let is = hash_verifies.only Z (part Z.n key 0) (part Z.n key 1) ctx M SIG sha512_pre_hash row ok in
    record { short = is.0; whole = is.1.0; leads = rw (frame_512 ctx M) at is.1.1 }

-- what the calls find nothing to refuse in
of_calls : (Z : Scheme) (mode : Mode) (key ctx M SIG : List ℕ) → hash_verify_error Z mode key ctx M SIG ≡ None → IsAccepted Z key ctx (mode_frame mode ctx M) SIG
of_calls Z mode key ctx M SIG none =
    let framed = mode_frame mode ctx M in
    let both = first_none (verify_refusal Z ctx M SIG) (root_refusal Z key framed SIG ∷ []) none in
    let size = first_none (length_refusal Length (signature_size Z) (length SIG)) (context_refusal ContextTooLong ctx ∷ message_refusal MessageTooLong M ∷ []) both.0 in
    let context = first_none (context_refusal ContextTooLong ctx) (message_refusal MessageTooLong M ∷ []) size.1 in
    let root = first_none (root_refusal Z key framed SIG) [] both.1 in
    record {
      short = at_most 255 (length ctx) ContextTooLong context.0;
      whole = (Decides-eqb (length SIG) (signature_size Z)).0 (passed _ _ size.0);
      leads = (bytes_eq-Decides _ _).0 (passed _ _ root.0);
    }

calls_of : (Z : Scheme) (mode : Mode) (key ctx M SIG : List ℕ) → length M ≤ 2 ^ 60 → IsAccepted Z key ctx (mode_frame mode ctx M) SIG → hash_verify_error Z mode key ctx M SIG ≡ None
calls_of Z mode key ctx M SIG few is =
    let whole : (length SIG == signature_size Z) ≡ true = (Decides-eqb (length SIG) (signature_size Z)).1 is.whole in
    let same : bytes_eq (checked_root Z (part Z.n key 0) (part Z.n key 1) (mode_frame mode ctx M) SIG) (part Z.n key 1) ≡ true
    = (bytes_eq-Decides _ _).1 is.leads in
    rw (whole, le-ltb 255 (length ctx) is.short, le-ltb (2 ^ 60) (length M) few, same) refl

pub accepted_at : (Z : Scheme) → IsRow Z → (mode : Mode) (key ctx M SIG : List ℕ) → hash_verify_error Z mode key ctx M SIG ≡ None
    → accepted_in mode (instance_of Z) M SIG ctx (verifying_parts Z.n key)
accepted_at Z row mode key ctx M SIG none = standard_of Z row mode key ctx M SIG (of_calls Z mode key ctx M SIG none)

pub accepted_only_at : (Z : Scheme) → IsRow Z → (mode : Mode) (key ctx M SIG : List ℕ) → length M ≤ 2 ^ 60
    → accepted_in mode (instance_of Z) M SIG ctx (verifying_parts Z.n key) → hash_verify_error Z mode key ctx M SIG ≡ None
accepted_only_at Z row mode key ctx M SIG few ok = calls_of Z mode key ctx M SIG few (of_standard Z row mode key ctx M SIG ok)
