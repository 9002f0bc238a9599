-- Envelopes that are accepted.
use Rattle.std.proofs.Common.{◌≡◌, ℕ, ◌*◌, ◌==◌, ◌&&◌, ◌||◌, Bool, true, false, List, [], ◌∷◌, Option, None, Some, drop, length, refl, ap, ◌∙◌}
use Rattle.std.specs.Prelude.{is_none}
use Rattle.std.specs.List.{list_any}
use Rattle.std.specs.Str.{bytes_eq}
use Rattle.std.proofs.lemmas.List.Folds.{Any-from_list_any}
use Rattle.std.proofs.lemmas.Slice.Eq.{bytes_eq-Decides}
use Rattle.slh_core.proofs.Refusals.{first_none, no_cause, none_first, passed}
use Rattle.slh_core.specs.Parameters.{Scheme}
use Rattle.slh_dsa.specs.Calls.{verify_error}
use Rattle.slh_dsa.specs.declared.error.Error.{Error}
use Rattle.slh_frames.specs.Frames.{frame}
use Rattle.slh_trees.specs.Signing.{signature_of}
use Rattle.dsse.specs.Encoding.{pae}
use Rattle.dsse.specs.Said.{Said, Signed}
use Rattle.slh_envelope.specs.Opening.{IsAccepted, is_accepted, may_be_of, may_have_id, open_refusal, signature_refusal, signed_text, type_refusal, unaccepted}
use Rattle.slh_envelope.specs.declared.error.OpenError.TheVariants.{PayloadType}
use Rattle.slh_envelope.specs.Sealing.{key_id, sealed}

both : (a b : Bool) → (a && b) ≡ true → b ≡ true
both true b is = is
both false b is = cc

none_of : {E : Type 0} (o : Option E) → is_none o ≡ true → o ≡ None
none_of None is = refl
none_of (Some e) is = cc

good : (Z : Scheme) (key id text other : List ℕ) (s : Signed) → text ≡ other → is_accepted Z key id text s ≡ true → verify_error Z key [] other s.bytes ≡ None
good Z key id text other s same is = rw same at (none_of (verify_error Z key [] text s.bytes) (both (may_be_of id s) _ is))

pub accepted_is_signed : (Z : Scheme) (key payload_type : List ℕ) (e : Said) → open_refusal Z key payload_type e ≡ None → IsAccepted Z key payload_type e
accepted_is_signed Z key payload_type e none =
    let parts = first_none (type_refusal payload_type e) (signature_refusal Z key e ∷ []) none in
    let same : e.payload_type ≡ payload_type = (bytes_eq-Decides e.payload_type payload_type).0 (passed _ _ parts.0) in
    let one : list_any (is_accepted Z key (key_id key) (signed_text e)) e.signatures ≡ true = passed _ _ (first_none (signature_refusal Z key e) [] parts.1).0 in
    let found = Any-from_list_any _ e.signatures one in
    let text : signed_text e ≡ pae payload_type e.payload = ap (λ (t : List ℕ). pae t e.payload) same in
    record {
      of_type = same;
      signed = (found.0, found.1, found.2, found.3, good Z key (key_id key) (signed_text e) (pae payload_type e.payload) found.1 text found.4);
    }

or_true : (a : Bool) → (a || true) ≡ true
or_true true = refl
or_true false = refl

named : (id : List ℕ) → may_have_id id (Some id) ≡ true
named id = rw ((bytes_eq-Decides id id).1 refl) (or_true (length id == 0))

-- a signature with the key's id that is good
one_is_enough : (Z : Scheme) (key text : List ℕ) (s : Signed) → s.key_id ≡ Some (key_id key) → verify_error Z key [] text s.bytes ≡ None
    → list_any (is_accepted Z key (key_id key) text) (s ∷ []) ≡ true
one_is_enough Z key text s id_is verified =
    ap (λ (b : Bool). (b && is_none (verify_error Z key [] text s.bytes)) || false) (ap (may_have_id (key_id key)) id_is ∙ named (key_id key))
    ∙ ap (λ (o : Option Error). is_none o || false) verified

-- what a key sealed that accepts its signature
pub sealed_is_accepted : (Z : Scheme) (n : ℕ) (key payload_type payload : List ℕ) (opt_rand : Option (List ℕ)) → Z.n ≡ n
    → verify_error Z (drop (2 * n) key) [] (pae payload_type payload) (signature_of Z key opt_rand (frame [] (pae payload_type payload))) ≡ None
    → open_refusal Z (drop (2 * n) key) payload_type (sealed Z key opt_rand payload_type payload) ≡ None
sealed_is_accepted Z n key payload_type payload opt_rand n_is verified =
    let text : List ℕ = pae payload_type payload in
    let e : Said = sealed Z key opt_rand payload_type payload in
    let public : List ℕ = drop (2 * n) key in
    let id_is : Some (key_id (drop (2 * Z.n) key)) ≡ Some (key_id public) = ap (λ (m : ℕ). Some (key_id (drop (2 * m) key))) n_is in
    let s : Signed = record { key_id = Some (key_id (drop (2 * Z.n) key)); bytes = signature_of Z key opt_rand (frame [] text) } in
    none_first (type_refusal payload_type e) (signature_refusal Z public e ∷ []) (no_cause (bytes_eq payload_type payload_type) PayloadType ((bytes_eq-Decides payload_type payload_type).1 refl))
    (none_first (signature_refusal Z public e) [] (no_cause (list_any (is_accepted Z public (key_id public) text) (s ∷ [])) (unaccepted public e) (one_is_enough Z public text s id_is verified)) refl)
