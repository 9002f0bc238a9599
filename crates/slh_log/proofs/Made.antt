-- What a true key makes is opened.
use Rattle.std.proofs.Common.{◌≡◌, ℕ, ◌+◌, ◌*◌, ◌^◌, ◌<◌, ◌≤◌, List, [], ◌∷◌, ◌++◌, length, take, drop, true, ◌&&◌, Option, Some, None, refl, sym, ◌∙◌, ap, subst, arith, length-append, lit≤, is_some}
use Rattle.std.specs.Str.{bytes_eq}
use Rattle.std.specs.Cmp.Derive.{both_true}
use Rattle.std.proofs.lemmas.Bool.{and_parts, le-leb, leb-true}
use Rattle.std.proofs.lemmas.Bool.Decides.{Decides-eqb}
use Rattle.std.proofs.lemmas.List.{drop_at, length-take-le}
use Rattle.std.proofs.lemmas.Slice.Eq.{bytes_eq-Decides}
use Rattle.base64.specs.GeneralPurpose.{IsBytes}
use Rattle.line_serve.specs.Lines.{parts}
use Rattle.sha256_lanes.proofs.Digest.{length-sha256}
use Rattle.sha256_lanes.specs.Sha256.{sha256}
use Rattle.slh_core.specs.Parameters.{Scheme}
use Rattle.slh_trees.specs.Checking.{signature_size}
use Rattle.slh_frames.specs.Frames.{mode_frame}
use Rattle.slh_frames.specs.declared.frame.Mode.TheVariants.{Pure}
use Rattle.slh_core.specs.Refusals.{first_refusal}
use Rattle.slh_core.proofs.Refusals.{first_none, no_cause, none_first, passed}
use Rattle.slh_dsa.specs.Calls.{hash_verify_error, is_valid, root_refusal, verify_refusal}
use Rattle.slh_log.proofs.MadeNote.{Reads, made_reads}
use Rattle.slh_log.specs.Calls.{open_refusal, read_signature, signature_refusal}
use Rattle.slh_log.specs.Heads.{IsOpened}
use Rattle.slh_log.specs.Reading.{after_text, are_signatures, has_form, is_origin, line_at, own_signature, read_root, read_size, read_text}
use Rattle.slh_log.specs.Texts.{checkpoint_text, key_id, key_input, log_context, signed_note}

-- a signature that is accepted
record IsAccepted (Z : Scheme) (key sig text : List ℕ) : Type 0 where
  len : length sig ≡ signature_size Z
  valid : is_valid Z Pure key log_context text sig ≡ true

accepted : (Z : Scheme) (key sig text : List ℕ) → hash_verify_error Z Pure key log_context text sig ≡ None → IsAccepted Z key sig text
accepted Z key sig text none =
    let all = first_none (verify_refusal Z log_context text sig) (root_refusal Z key (mode_frame Pure log_context text) sig ∷ []) none in
    let sizes = first_none _ _ all.0 in
    let root = first_none _ _ all.1 in
    record {
      len = (Decides-eqb _ _).0 (passed _ _ sizes.0);
      valid = passed _ _ root.0;
    }

pub id_size : (origin set key : List ℕ) → length (key_id origin set key) ≡ 4
id_size origin set key = length-take-le 4 (sha256 (key_input origin set key)) (omega (arith, length-sha256 (key_input origin set key)))

-- what has such lines is opened
opened : (Z : Scheme) (set key origin : List ℕ) (size : ℕ) (root sig bytes : List ℕ) → is_origin origin ≡ true
    → Reads (4 + signature_size Z) origin size root (key_id origin set key) sig bytes
    → is_valid Z Pure key log_context (checkpoint_text origin size root) sig ≡ true
    → IsOpened Z set key origin bytes size root
opened Z set key origin size root sig bytes is read valid =
    let id = key_id origin set key in
    let some : 1 ≤ length (line_at bytes 0) = rw read.first (leb-true 1 (length origin) (and_parts _ _ (and_parts _ _ is).0).0) in
    let form : has_form bytes ≡ true = rw (le-leb (length bytes) (2 ^ 60) read.short, le-leb 1 (length (line_at bytes 0)) some, read.is_size, read.is_root, read.signatures) refl in
    let same : (is_origin origin && bytes_eq (line_at bytes 0) origin) ≡ true = both_true is ((bytes_eq-Decides (line_at bytes 0) origin).1 read.first) in
    let after : drop 4 (id ++ sig) ≡ sig = drop_at id sig 4 (id_size origin set key) in
    let of_text : is_valid Z Pure key log_context (read_text bytes) (drop 4 (id ++ sig)) ≡ true =
    ap (λ t. is_valid Z Pure key log_context t (drop 4 (id ++ sig))) read.is_text ∙ ap (is_valid Z Pure key log_context (checkpoint_text origin size root)) after ∙ valid in
    let good : signature_refusal Z key (read_text bytes) (read_signature Z set key origin bytes) ≡ None =
    ap (signature_refusal Z key (read_text bytes)) read.own ∙ no_cause _ _ of_text in
    record {
      opens = none_first _ _ (no_cause _ _ form) (none_first _ _ (no_cause _ _ same) (none_first _ _ good refl));
      is_size = read.is_size;
      is_root = read.is_root;
    }

pub made_opened : (Z : Scheme) (set key origin : List ℕ) (size : ℕ) (root sig : List ℕ) → is_origin origin ≡ true → size < 2 ^ 64 → length root ≡ 32 → IsBytes root
    → IsBytes (key_id origin set key ++ sig) → signature_size Z + 4 ≤ 2 ^ 18
    → hash_verify_error Z Pure key log_context (checkpoint_text origin size root) sig ≡ None
    → IsOpened Z set key origin (signed_note (checkpoint_text origin size root) origin (key_id origin set key) sig) size root
made_opened Z set key origin size root sig is low root_len root_bytes bytes bound none =
    let id = key_id origin set key in
    let good = accepted Z key sig (checkpoint_text origin size root) none in
    let count : length (id ++ sig) ≡ 4 + signature_size Z = omega (arith, length-append id sig, id_size origin set key, good.len) in
    let read = made_reads (4 + signature_size Z) origin size root id sig is low root_bytes root_len bytes (id_size origin set key) count (omega arith) in
    opened Z set key origin size root sig (signed_note (checkpoint_text origin size root) origin id sig) is read good.valid

-- what opens was signed
pub record Opened (Z : Scheme) (set key origin bytes : List ℕ) : Type 0 where
  pub some : 1 ≤ length (line_at bytes 0)
  pub signatures : are_signatures (after_text (parts bytes)) ≡ true
  pub origin_is : line_at bytes 0 ≡ origin
  pub signed : signature_refusal Z key (read_text bytes) (read_signature Z set key origin bytes) ≡ None

pub opened_parts : (Z : Scheme) (set key origin bytes : List ℕ) → open_refusal Z set key origin bytes ≡ None → Opened Z set key origin bytes
opened_parts Z set key origin bytes none =
    let first = first_none _ _ none in
    let second = first_none _ _ first.1 in
    let third = first_none _ _ second.1 in
    let form : has_form bytes ≡ true = passed _ _ first.0 in
    let at_origin : (is_origin origin && bytes_eq (line_at bytes 0) origin) ≡ true = passed _ _ second.0 in
    let lines = and_parts _ _ form in
    let before = and_parts _ _ lines.0 in
    let before_size = and_parts _ _ before.0 in
    let short = and_parts _ _ before_size.0 in
    record {
      some = leb-true 1 (length (line_at bytes 0)) short.1;
      signatures = lines.1;
      origin_is = (bytes_eq-Decides (line_at bytes 0) origin).0 (and_parts _ _ at_origin).1;
      signed = third.0;
    }

one_left : {E : Type 0} (x : Option E) → first_refusal (x ∷ []) ≡ x
one_left None = refl
one_left (Some e) = refl

-- past its form and its origin a checkpoint is opened by its signature
pub opens_by : (Z : Scheme) (set key origin bytes text : List ℕ) (signatures : List (List ℕ)) → has_form bytes ≡ true → (is_origin origin && bytes_eq (line_at bytes 0) origin) ≡ true
    → text ≡ read_text bytes → signatures ≡ after_text (parts bytes)
    → open_refusal Z set key origin bytes ≡ signature_refusal Z key text (own_signature (4 + signature_size Z) origin (key_id origin set key) signatures)
opens_by Z set key origin bytes text signatures form same text_is signatures_are =
    let last = signature_refusal Z key (read_text bytes) (read_signature Z set key origin bytes) in
    let past : open_refusal Z set key origin bytes ≡ first_refusal (last ∷ []) = rw (form, same) refl in
    past ∙ one_left last
    ∙ ap (λ t. signature_refusal Z key t (read_signature Z set key origin bytes)) (sym text_is)
    ∙ ap (λ s. signature_refusal Z key text (own_signature (4 + signature_size Z) origin (key_id origin set key) s)) (sym signatures_are)
