-- Heads that open, and receipts under them.
use Rattle.std.proofs.Common.{◌⊎◌, ◌≡◌, ◌≢◌, ℕ, ◌+◌, ◌*◌, ◌^◌, ◌<◌, ◌≤◌, ◌==◌, List, [], ◌∷◌, ◌++◌, length, drop, get_or, map, Bool, true, false, Option, Some, None, refl, sym, ap, ◌∙◌, arith, inl, inr, length-append, length-drop, if◌then◌else◌}
use Rattle.std.specs.Bool.{Decides}
use Rattle.std.specs.List.{concat}
use Rattle.std.specs.Prelude.{nat_lt, ◌&&◌}
use Rattle.std.specs.Str.{bytes_eq}
use Rattle.std.proofs.lemmas.Bool.{cases_Bool, le-ltb}
use Rattle.std.proofs.lemmas.Bool.Decides.{Decides-and, Decides-eqb, Decides-like, Decides-ltb}
use Rattle.std.proofs.lemmas.List.{drop_at, drop-drop, get_or-map, length-map, take_at}
use Rattle.std.proofs.lemmas.Slice.Eq.{bytes_eq-Decides}
use Rattle.merkle_tree.proofs.Equations.{leaves_wide}
use Rattle.merkle_tree.proofs.Included.{path_leads, path_length}
use Rattle.merkle_tree.proofs.Heights.{entries_placed}
use Rattle.merkle_tree.proofs.Ways.{climb_is_along, enough}
use Rattle.merkle_tree.proofs.Widths.{Wide, tree_wide}
use Rattle.merkle_tree.specs.Clashes.{clash_place}
use Rattle.merkle_tree.specs.Climb.{climb_along}
use Rattle.sha256_lanes.proofs.Digest.{length-sha256}
use Rattle.sha256_lanes.specs.Sha256.{sha256}
use Rattle.slh_core.specs.Parameters.{Scheme}
use Rattle.slh_dsa.specs.Calls.{hash_verify_error, is_valid}
use Rattle.slh_frames.specs.declared.frame.Mode.TheVariants.{Pure}
use Rattle.slh_trees.specs.Checking.{signature_size}
use Rattle.slh_core.specs.Refusals.{first_refusal, message_refusal}
use Rattle.slh_core.proofs.Refusals.{first_none, no_cause, passed}
use Rattle.slh_batch.proofs.Accepted.{number_again, verified}
use Rattle.slh_batch.proofs.Cuts.{digests-concat, length-concat}
use Rattle.slh_batch.proofs.Forms.{Decides-leb, RightForm, has_form, no_form}
use Rattle.slh_batch.proofs.Reached.{alone}
use Rattle.slh_batch.specs.Calls.{accept_error, head_form_refusal, head_refusal, led_refusal, open_error, place_refusal, under_error}
use Rattle.slh_batch.specs.Heads.{BatchHead, IsOfAnotherRoot, has_head_form, head_count, head_in, head_of, head_root, head_sig, is_signed_root, receipt_under, root_under}
use Rattle.slh_batch.specs.Receipts.{batch_context, batch_message, climbed_root, has_right_form, path_len, receipt_count, receipt_index, receipt_path, receipt_path_len, receipt_sig, root_message}
use Rattle.slh_batch.specs.Tree.{batch_climb, batch_inputs, batch_leaf, batch_path, batch_sides, batch_tree}
use Rattle.slh_batch.specs.declared.error.HeadError.TheVariants.{Invalid as Unsigned}
use Rattle.slh_batch.specs.declared.error.ReceiptError.{ReceiptError}
use Rattle.slh_batch.specs.declared.error.ReceiptError.TheVariants.{Form, Message, Invalid}

pub record HeadForm (Z : Scheme) (bytes : List ℕ) : Type 0 where
  pub some : 1 ≤ head_count bytes
  pub few : head_count bytes ≤ 2 ^ 20
  pub size : length bytes ≡ 36 + signature_size Z

pub head_form-Decides : (Z : Scheme) (bytes : List ℕ) → Decides (has_head_form Z bytes) (HeadForm Z bytes)
head_form-Decides Z bytes =
    Decides-like _
    (λ all. record { some = all.0.0; few = all.0.1; size = all.1 })
    (λ form. ((form.some, form.few), form.size))
    (Decides-and _ _ (Decides-and _ _ (Decides-leb 1 (head_count bytes)) (Decides-leb (head_count bytes) (2 ^ 20)))
    (Decides-eqb (length bytes) (36 + signature_size Z)))

-- what opening comes to where the form is right
pub open_is : (Z : Scheme) (key bytes : List ℕ) → HeadForm Z bytes → head_refusal Z key (head_in bytes) ≡ open_error Z key bytes
open_is Z key bytes form = rw ((head_form-Decides Z bytes).1 form) (alone (head_refusal Z key (head_in bytes)))

-- a head that opened
pub record Opened (Z : Scheme) (key : List ℕ) (head : BatchHead) : Type 0 where
  pub some : 1 ≤ head.count
  pub few : head.count ≤ 2 ^ 20
  pub sig_len : length head.signature ≡ signature_size Z
  pub valid : is_signed_root Z key head head.root ≡ true

pub opened : (Z : Scheme) (key bytes : List ℕ) → open_error Z key bytes ≡ None → Opened Z key (head_in bytes)
opened Z key bytes none =
    let both = first_none (head_form_refusal Z bytes) (head_refusal Z key (head_in bytes) ∷ []) none in
    let form = (head_form-Decides Z bytes).0 (passed _ _ both.0) in
    let signed = first_none (head_refusal Z key (head_in bytes)) [] both.1 in
    record {
      some = form.some;
      few = form.few;
      sig_len = omega (arith, length-drop 36 bytes, form.size);
      valid = passed _ _ signed.0;
    }

-- what is answered where these three stand or don't
abbrev pub answer : Bool → Bool → Bool → Option ReceiptError
answer fits long good =
    first_refusal ((if fits then None else Some Form) ∷ (if long then Some Message else None) ∷ (if good then None else Some Invalid) ∷ [])

-- a receipt under a head says what it was made of
pub record Says (head : BatchHead) (i : ℕ) (path : List (List ℕ)) (r : List ℕ) : Type 0 where
  pub index : receipt_index r ≡ i
  pub count : receipt_count r ≡ head.count
  pub body : drop 8 r ≡ concat path ++ head.signature
  pub len : length r ≡ 8 + length (concat path) + length head.signature

says : (head : BatchHead) (i : ℕ) (path : List (List ℕ)) → i < 2 ^ 32 → head.count ≤ 2 ^ 20 → Says head i path (receipt_under head i path)
says head i path h few = record {
  index = number_again i h;
  count = number_again head.count (omega arith);
  body = refl;
  len = omega (arith, length-append (concat path) head.signature);
}

abbrev pub fits : BatchHead → ℕ → List (List ℕ) → Bool
fits head i path = nat_lt i head.count && length path == path_len i head.count

pub fits-Decides : (head : BatchHead) (i : ℕ) (path : List (List ℕ)) → Decides (fits head i path) ((i < head.count) × (length path ≡ path_len i head.count))
fits-Decides head i path = Decides-and _ _ (Decides-ltb i head.count) (Decides-eqb (length path) (path_len i head.count))

-- the whole receipt is answered by its form, and by the root that the path leads to
whole_is : (Z : Scheme) (key m r : List ℕ) (head : BatchHead) (i : ℕ) (path : List (List ℕ)) → Opened Z key head → Says head i path r → Wide path
    → accept_error Z key m r ≡ answer (fits head i path) (nat_lt (2 ^ 60) (length m)) (is_signed_root Z key head (batch_climb (batch_leaf m) i head.count path))
whole_is Z key m r head i path head_is told wide =
    let bytes : length (concat path) ≡ 32 * length path = length-concat path wide in
    let asked : receipt_path_len r ≡ path_len i head.count = rw (told.index, told.count) refl in
    elim (cases_Bool (fits head i path)) [
      | inl fit ↦ (
          let place = (fits-Decides head i path).0 fit in
          let len : receipt_path_len r ≡ length path = asked ∙ sym place.1 in
          let form : RightForm Z r = record {
            some = rw told.count head_is.some;
            few = rw told.count head_is.few;
            inside = rw (told.index, told.count) place.0;
            size = omega (arith, told.len, bytes, head_is.sig_len, len);
          } in
          let path_is : receipt_path r ≡ path = rw (len, told.body) (digests-concat path head.signature wide) in
          let sig_is : receipt_sig r ≡ head.signature
          = ap (λ k. drop (8 + 32 * k) r) len ∙ sym (drop-drop (32 * length path) 8 r) ∙ ap (drop (32 * length path)) told.body ∙ drop_at (concat path) head.signature (32 * length path) bytes in
          let root : climbed_root m r ≡ batch_climb (batch_leaf m) i head.count path = rw (path_is, told.index, told.count) refl in
          let signed : root_message (receipt_count r) (climbed_root m r) ≡ root_message head.count (batch_climb (batch_leaf m) i head.count path) = rw (root, told.count) refl in
          rw (has_form Z r form, fit, signed, sig_is) refl)
      | inr misfit ↦ (
          let none : has_right_form Z r ≡ false = no_form Z r (λ form.
          let len : length path ≡ path_len i head.count = omega (arith, form.size, told.len, bytes, head_is.sig_len, asked) in
          let inside : i < head.count = rw (told.index, told.count) at form.inside in
          cc ((fits-Decides head i path).1 (inside, len), misfit)) in
          rw (none, misfit) refl)
    ]

-- where the one answer is good, the other is
accepts : (fits long same valid : Bool) → (same ≡ true → valid ≡ true) → answer fits long same ≡ None → answer fits long valid ≡ None
accepts false long same valid holds none = cc
accepts true true same valid holds none = cc
accepts true false false valid holds none = cc
accepts true false true valid holds none = rw (holds refl) refl

refuses : (fits long same valid : Bool) (e : ReceiptError) → (same ≡ true → valid ≡ true) → answer fits long valid ≡ Some e → answer fits long same ≡ Some e
refuses false long same valid e holds is = is
refuses true true same valid e holds is = is
refuses true false false false e holds is = is
refuses true false false true e holds is = absurd (cc)
refuses true false true valid e holds is = absurd (cc (holds refl, is))

-- otherwise the other is good alone
equal : (fits long same valid : Bool) → (same ≡ true → valid ≡ true) → (answer fits long valid ≡ answer fits long same) ⊎ ((same ≡ false) × (valid ≡ true))
equal fits long true valid holds = inl (rw (holds refl) refl)
equal fits long false true holds = inr (refl, refl)
equal fits long false false holds = inl refl

-- the head's own root is signed
own : (Z : Scheme) (key root : List ℕ) (head : BatchHead) → Opened Z key head → bytes_eq root head.root ≡ true → is_signed_root Z key head root ≡ true
own Z key root head head_is same = rw ((bytes_eq-Decides root head.root).0 same) head_is.valid

pub accepted_whole : (Z : Scheme) (key bytes m : List ℕ) (i : ℕ) (path : List (List ℕ)) → open_error Z key bytes ≡ None → i < 2 ^ 32 → Wide path
    → under_error (head_in bytes) m i path ≡ None → accept_error Z key m (receipt_under (head_in bytes) i path) ≡ None
accepted_whole Z key bytes m i path none h wide under =
    let head = head_in bytes in
    let head_is = opened Z key bytes none in
    let root = batch_climb (batch_leaf m) i head.count path in
    whole_is Z key m (receipt_under head i path) head i path head_is (says head i path h head_is.few) wide
    ∙ accepts (fits head i path) (nat_lt (2 ^ 60) (length m)) (bytes_eq root head.root) (is_signed_root Z key head root) (own Z key root head head_is) under

pub refused_whole : (Z : Scheme) (key bytes m : List ℕ) (i : ℕ) (path : List (List ℕ)) (e : ReceiptError) → open_error Z key bytes ≡ None → i < 2 ^ 32 → Wide path
    → accept_error Z key m (receipt_under (head_in bytes) i path) ≡ Some e → under_error (head_in bytes) m i path ≡ Some e
refused_whole Z key bytes m i path e none h wide whole =
    let head = head_in bytes in
    let head_is = opened Z key bytes none in
    let root = batch_climb (batch_leaf m) i head.count path in
    refuses (fits head i path) (nat_lt (2 ^ 60) (length m)) (bytes_eq root head.root) (is_signed_root Z key head root) e (own Z key root head head_is)
    (sym (whole_is Z key m (receipt_under head i path) head i path head_is (says head i path h head_is.few) wide) ∙ whole)

pub same_whole : (Z : Scheme) (key bytes m : List ℕ) (i : ℕ) (path : List (List ℕ)) → open_error Z key bytes ≡ None → i < 2 ^ 32 → Wide path
    → (accept_error Z key m (receipt_under (head_in bytes) i path) ≡ under_error (head_in bytes) m i path) ⊎ IsOfAnotherRoot Z key (head_in bytes) (root_under (head_in bytes) m i path)
same_whole Z key bytes m i path none h wide =
    let head = head_in bytes in
    let head_is = opened Z key bytes none in
    let root = root_under head m i path in
    let whole = whole_is Z key m (receipt_under head i path) head i path head_is (says head i path h head_is.few) wide in
    elim (equal (fits head i path) (nat_lt (2 ^ 60) (length m)) (bytes_eq root head.root) (is_signed_root Z key head root) (own Z key root head head_is)) [
      | inl same ↦ inl (whole ∙ same)
      | inr two ↦ inr (record { other = λ same. cc ((bytes_eq-Decides root head.root).1 same, two.0); signed = two.1 })
    ]

-- what the head of a sealed batch says
pub head_says : (messages : List (List ℕ)) (sig : List ℕ) → 0 < length messages → length messages ≤ 2 ^ 20
    → head_in (head_of (map batch_leaf messages) sig) ≡ record { count = length (map batch_leaf messages); root = batch_tree (map batch_leaf messages); signature = sig }
head_says messages sig some few =
    let q = map batch_leaf messages in
    let size : length q ≡ length messages = length-map messages batch_leaf in
    let wide : Wide q = leaves_wide sha256 length-sha256 messages in
    let root : length (batch_tree q) ≡ 32 = tree_wide sha256 length-sha256 (length q) q (omega arith) (enough (length q)) wide in
    let count : head_count (head_of q sig) ≡ length q = number_again (length q) (omega arith) in
    let root_is : head_root (head_of q sig) ≡ batch_tree q = take_at (batch_tree q) sig 32 root in
    let sig_is : head_sig (head_of q sig) ≡ sig = drop_at (batch_tree q) sig 32 root in
    rw (count, root_is, sig_is) refl

pub head_opens : (Z : Scheme) (vk : List ℕ) (messages : List (List ℕ)) (sig : List ℕ) → 0 < length messages → length messages ≤ 2 ^ 20
    → hash_verify_error Z Pure vk batch_context (batch_message (map batch_leaf messages)) sig ≡ None
    → open_error Z vk (head_of (map batch_leaf messages) sig) ≡ None
head_opens Z vk messages sig some few none =
    let q = map batch_leaf messages in
    let bytes = head_of q sig in
    let says = head_says messages sig some few in
    let v = verified Z vk (batch_message q) sig none in
    let size : length q ≡ length messages = length-map messages batch_leaf in
    let wide : Wide q = leaves_wide sha256 length-sha256 messages in
    let root : length (batch_tree q) ≡ 32 = tree_wide sha256 length-sha256 (length q) q (omega arith) (enough (length q)) wide in
    let count : head_count bytes ≡ length q = ap (λ h. h.count) says in
    let form : HeadForm Z bytes = record {
      some = rw count (omega arith);
      few = rw count (omega arith);
      size = omega (arith, length-append (batch_tree q) sig, root, v.len);
    } in
    sym (open_is Z vk bytes form) ∙ ap (head_refusal Z vk) says ∙ no_cause (is_valid Z Pure vk batch_context (batch_message q) sig) Unsigned v.valid

pub message_under : (messages : List (List ℕ)) (sig : List ℕ) (i : ℕ) → i < length messages → length messages ≤ 2 ^ 20 → length (get_or messages i []) ≤ 2 ^ 60
    → under_error (head_in (head_of (map batch_leaf messages) sig)) (get_or messages i []) i (batch_path (map batch_leaf messages) i) ≡ None
message_under messages sig i inside few short =
    let q = map batch_leaf messages in
    let m = get_or messages i [] in
    let size : length q ≡ length messages = length-map messages batch_leaf in
    let h : i < length q = omega arith in
    let leaf : get_or q i [] ≡ batch_leaf m = get_or-map batch_leaf messages i [] [] inside in
    let head : BatchHead = record { count = length q; root = batch_tree q; signature = sig } in
    let place : fits head i (batch_path q i) ≡ true = (fits-Decides head i (batch_path q i)).1 (h, path_length sha256 i q h) in
    let climb : batch_climb (batch_leaf m) i (length q) (batch_path q i) ≡ batch_tree q = rw (← leaf) (path_leads sha256 i q h) in
    let same : bytes_eq (batch_tree q) (batch_tree q) ≡ true = (bytes_eq-Decides (batch_tree q) (batch_tree q)).1 refl in
    ap (λ said. under_error said m i (batch_path q i)) (head_says messages sig (omega arith) few) ∙ rw (place, le-ltb (2 ^ 60) (length m) short, climb, same) refl

-- what is accepted under a head has a path that fits, and leads to its root
record Led (head : BatchHead) (m : List ℕ) (i : ℕ) (path : List (List ℕ)) : Type 0 where
  inside : i < head.count
  path_len : length path ≡ path_len i head.count
  root : climb_along sha256 (batch_leaf m) (batch_sides i head.count) path ≡ head.root

led : (head : BatchHead) (m : List ℕ) (i : ℕ) (path : List (List ℕ)) → under_error head m i path ≡ None → Led head m i path
led head m i path none =
    let first = first_none (place_refusal head i path) (message_refusal Message m ∷ led_refusal head (batch_leaf m) i path ∷ []) none in
    let second = first_none (message_refusal Message m) (led_refusal head (batch_leaf m) i path ∷ []) first.1 in
    let third = first_none (led_refusal head (batch_leaf m) i path) [] second.1 in
    let place = (fits-Decides head i path).0 (passed _ _ first.0) in
    let root : batch_climb (batch_leaf m) i head.count path ≡ head.root = (bytes_eq-Decides _ _).0 (passed _ _ third.0) in
    record {
      inside = place.0;
      path_len = place.1;
      root = sym (climb_is_along sha256 head.count (batch_leaf m) i head.count path place.0 (enough head.count) place.1) ∙ root;
    }

pub head_bound : (head : BatchHead) (m o : List ℕ) (i : ℕ) (p r : List (List ℕ)) → Wide p → Wide r → under_error head m i p ≡ None → under_error head o i r ≡ None
    → m ≢ o → (h : ℕ) × (clash_place sha256 (batch_inputs m i head.count p) (batch_inputs o i head.count r) ≡ Some h)
head_bound head m o i p r wide_p wide_r under_m under_o differ =
    let a = led head m i p under_m in
    let b = led head o i r under_o in
    entries_placed sha256 m o i head.count p r a.path_len b.path_len wide_p wide_r (a.root ∙ sym b.root) differ
