-- What a true key seals is accepted.
use Rattle.std.proofs.Common.{◌≡◌, ℕ, ◌+◌, ◌*◌, ◌^◌, ◌≤◌, ◌==◌, ◌&&◌, Bool, true, false, List, [], ◌∷◌, ◌++◌, length, drop, refl, sym, ◌∙◌, ap, arith, length-append, Option, None, Some, unwrap_or, IsSomeAnd, if◌then◌else◌}
use Rattle.std.proofs.lemmas.Bool.Decides.{Decides-eqb}
use Rattle.std.proofs.lemmas.Slice.Eq.{bytes_eq-Decides}
use Rattle.std.specs.Int.{w32, to_be_bytes}
use Rattle.std.specs.List.{flat_map, AllByRecursion}
use Rattle.std.specs.Str.{bytes_eq}
use Rattle.sha256_lanes.specs.Sha256.{sha256}
use Rattle.slh_core.specs.Bytes.{part}
use Rattle.slh_core.specs.Parameters.{Scheme}
use Rattle.slh_core.specs.Suite.{HasLength}
use Rattle.slh_dsa.specs.Calls.{is_valid, root_refusal, verify_error, verify_refusal}
use Rattle.slh_frames.specs.Frames.{frame, mode_frame}
use Rattle.slh_frames.specs.declared.frame.Mode.TheVariants.{Pure}
use Rattle.slh_trees.proofs.Signatures.{length-digest_signature}
use Rattle.slh_trees.specs.Checking.{signature_size}
use Rattle.slh_trees.specs.Keys.{IsTrueKey}
use Rattle.slh_trees.specs.Signing.{signature_of}
use Rattle.slh_core.specs.Refusals.{first_refusal}
use Rattle.slh_manifest.specs.Building.{entry_of, manifest_of}
use Rattle.slh_manifest.specs.Checking.{HasEntry, bytes_error, check_error, entries_error, manifest_refusal}
use Rattle.slh_manifest.specs.Files.{Files, bytes_of}
use Rattle.slh_manifest.specs.Manifest.{HasForm, body_bytes, entry_bytes, manifest_context}
use Rattle.slh_manifest.specs.declared.entry.Entry.{Entry}
use Rattle.slh_manifest.specs.declared.error.CheckError.{CheckError}
use Rattle.slh_manifest.specs.declared.error.CheckError.TheVariants.{Differs, Invalid}
use Rattle.slh_manifest.proofs.Errors.{first_none, first_of_one}
use Rattle.slh_manifest.proofs.Lists.{entries_short}
use Rattle.slh_manifest.proofs.ReadBack.{body_is, entries_are_read, manifest_is, signature_is_read}
use Rattle.slh_manifest.proofs.Whole.{check_entries_decide, not_refused, refused_by_signature}

entry_right : (told : Option (List ℕ)) (i : ℕ) (entry : Entry) → IsSomeAnd told (λ bytes. entry ≡ entry_of entry.name bytes) → bytes_error i entry.len entry.digest told ≡ None
entry_right None i entry is = absurd is
entry_right (Some bytes) i entry is =
    let len : (length bytes == entry.len) ≡ true = (Decides-eqb (length bytes) entry.len).1 (sym (ap (λ e. e.len) is)) in
    let digest : bytes_eq (sha256 bytes) entry.digest ≡ true = (bytes_eq-Decides (sha256 bytes) entry.digest).1 (sym (ap (λ e. e.digest) is)) in
    ap (λ (b : Bool). if b && bytes_eq (sha256 bytes) entry.digest then None else Some (Differs i)) len
    ∙ ap (λ (b : Bool). if b then None else Some (Differs i)) digest

pub entries_right : (files : Files) (i : ℕ) (entries : List Entry) → AllByRecursion (HasEntry files) entries → entries_error files i entries ≡ None
entries_right files i [] all = refl
entries_right files i (entry ∷ entries) all =
    ap (λ (o : Option CheckError). first_refusal (o ∷ entries_error files (i + 1) entries ∷ [])) (entry_right (bytes_of files entry.name) i entry all.0)
    ∙ first_of_one (entries_error files (i + 1) entries) ∙ entries_right files (i + 1) entries all.1

pub body_short : (entries : List Entry) → HasForm entries → length (body_bytes entries) ≤ 2 ^ 60
body_short entries form =
    omega (arith, length-append (to_be_bytes w32 (length entries)) (flat_map entry_bytes entries), entries_short [] entries form.rise, form.few)

pub signature_len : (Z : Scheme) (key : List ℕ) (opt_rand : Option (List ℕ)) (message : List ℕ) → HasLength Z.suite Z.n → length (signature_of Z key opt_rand message) ≡ signature_size Z
signature_len Z key opt_rand message law =
    let prf = part Z.n key 1 in
    let s = part Z.n key 2 in
    let bytes = unwrap_or opt_rand s in
    let rand = Z.suite.prf_msg prf bytes message in
    length-digest_signature Z s (part Z.n key 0) rand (Z.suite.h_msg rand s (part Z.n key 3) message) law (law.prf_msg prf bytes message)

passed : {E : Type 0} (b : Bool) (e : E) → (if b then None else Some e) ≡ None → b ≡ true
passed true e none = refl
passed false e none = cc

valid_of : (Z : Scheme) (key body sig : List ℕ) → verify_error Z key manifest_context body sig ≡ None → is_valid Z Pure key manifest_context body sig ≡ true
valid_of Z key body sig none =
    let parts = first_none (verify_refusal Z manifest_context body sig) (root_refusal Z key (mode_frame Pure manifest_context body) sig ∷ []) none in
    passed _ _ (first_none _ _ parts.1).0

-- what signing and verifying have to do with each other, for values of n bytes
abbrev pub SignedIsAccepted : Scheme → ℕ → Type 0
SignedIsAccepted Z n =
    (key : List ℕ) (opt_rand : Option (List ℕ)) (message : List ℕ) → IsTrueKey Z key → length key ≡ 4 * n → length message ≤ 2 ^ 60
    → verify_error Z (drop (2 * n) key) manifest_context message (signature_of Z key opt_rand (frame manifest_context message)) ≡ None

abbrev pub SignatureHasSize : Scheme → Type 0
SignatureHasSize Z = (key : List ℕ) (opt_rand : Option (List ℕ)) (message : List ℕ) → length (signature_of Z key opt_rand message) ≡ signature_size Z

-- a manifest by its signature, whoever made that
module _ (Z : Scheme) (key sig : List ℕ) (entries : List Entry) (form : HasForm entries) (size : length sig ≡ signature_size Z) where
  abbrev whole : List ℕ
  whole = body_bytes entries ++ sig

  pub accepted_with : (files : Files) → is_valid Z Pure key manifest_context (body_bytes entries) sig ≡ true → AllByRecursion (HasEntry files) entries → check_error Z key whole files ≡ None
  accepted_with files valid all =
      let none = not_refused Z key whole (body_bytes entries) sig (sym (manifest_is entries sig form Z size)) (sym (body_is entries sig form)) (sym (signature_is_read entries sig form)) true (sym valid) refl in
      check_entries_decide Z key whole none files
      ∙ ap (entries_error files 0) (entries_are_read entries sig form) ∙ entries_right files 0 entries all

  pub invalid_with : is_valid Z Pure key manifest_context (body_bytes entries) sig ≡ false → manifest_refusal Z key whole ≡ Some Invalid
  invalid_with invalid =
      refused_by_signature Z key whole (body_bytes entries) sig (sym (manifest_is entries sig form Z size)) (sym (body_is entries sig form)) (sym (signature_is_read entries sig form)) false (sym invalid) refl

pub accepted : (Z : Scheme) (n : ℕ) (key : List ℕ) (opt_rand : Option (List ℕ)) (entries : List Entry) (files : Files)
    → SignedIsAccepted Z n → SignatureHasSize Z → IsTrueKey Z key → length key ≡ 4 * n → HasForm entries → AllByRecursion (HasEntry files) entries
    → check_error Z (drop (2 * n) key) (manifest_of Z key opt_rand entries) files ≡ None
accepted Z n key opt_rand entries files signed sized true_key size form all =
    let body = body_bytes entries in
    let sig = signature_of Z key opt_rand (frame manifest_context body) in
    let verified : is_valid Z Pure (drop (2 * n) key) manifest_context body sig ≡ true
    = valid_of Z (drop (2 * n) key) body sig (signed key opt_rand body true_key size (body_short entries form)) in
    accepted_with Z (drop (2 * n) key) sig entries form (sized key opt_rand (frame manifest_context body)) files verified all
