-- Receipts that are checked under heads.
use Rattle.std.proofs.Common.{◌≡◌, ℕ, ◌^◌, ◌<◌, ◌≤◌, ◌==◌, List, [], ◌∷◌, length, drop, get_or, map, Bool, true, false, Option, None, Some, refl, sym, subst, ap, ◌∙◌, arith, if◌then◌else◌}
use Rattle.std.proofs.lemmas.Bool.Decides.{Decides-eqb}
use Rattle.std.proofs.lemmas.List.{length-map}
use Rattle.merkle_tree.proofs.Equations.{leaves_wide}
use Rattle.merkle_tree.proofs.Widths.{Wide}
use Rattle.sha256_lanes.proofs.Digest.{length-sha256}
use Rattle.sha256_lanes.specs.Sha256.{sha256}
use Rattle.slh_core.specs.Parameters.{Scheme}
use Rattle.slh_dsa.specs.Calls.{hash_verify_error}
use Rattle.slh_frames.specs.declared.frame.Mode.TheVariants.{Pure}
use Rattle.slh_core.specs.Refusals.{first_refusal, message_refusal}
use Rattle.slh_core.proofs.Refusals.{first_none, passed}
use Rattle.std.specs.Prelude.{nat_lt}
use Rattle.slh_batch.proofs.Accepted.{says, verified, whole}
use Rattle.slh_batch.proofs.Bound.{wide_path}
use Rattle.slh_batch.proofs.Cuts.{length-digests}
use Rattle.slh_batch.proofs.Forms.{form_of, has_form}
use Rattle.slh_batch.proofs.Heads.{accepted_whole, fits, fits-Decides, head_says, message_under}
use Rattle.slh_batch.specs.Calls.{accept_error, count_refusal, form_refusal, led_refusal, open_error, receipt_under_error, under_error}
use Rattle.slh_batch.specs.Heads.{BatchHead, head_in, head_of, receipt_under}
use Rattle.slh_batch.specs.Receipts.{batch_context, batch_message, has_right_form, path_len, receipt_count, receipt_index, receipt_of, receipt_path, receipt_path_len}
use Rattle.slh_batch.specs.Tree.{batch_leaf, batch_path}
use Rattle.slh_batch.specs.declared.error.ReceiptError.{ReceiptError}
use Rattle.slh_batch.specs.declared.error.ReceiptError.TheVariants.{Message}

-- a receipt of right form for a head's number of messages has a place under it, which its path fits
pub has_place : (Z : Scheme) (head : BatchHead) (r : List ℕ) → has_right_form Z r ≡ true → receipt_count r ≡ head.count
    → fits head (receipt_index r) (receipt_path r) ≡ true
has_place Z head r holds count =
    let form = form_of Z r holds in
    let inside : receipt_index r < head.count = subst (λ (n : ℕ). receipt_index r < n) count form.inside in
    let len : length (receipt_path r) ≡ path_len (receipt_index r) head.count
    = length-digests (receipt_path_len r) (drop 8 r) ∙ ap (λ n. path_len (receipt_index r) n) count in
    (fits-Decides head (receipt_index r) (receipt_path r)).1 (inside, len)

-- a test that was passed changes nothing
one_less : (long : Bool) (last : Option ReceiptError)
    → first_refusal ((if long then Some Message else None) ∷ None ∷ last ∷ []) ≡ first_refusal ((if long then Some Message else None) ∷ last ∷ [])
one_less true last = refl
one_less false last = refl

-- it is answered as its place and its path
pub by_path : (Z : Scheme) (head : BatchHead) (m r : List ℕ) → has_right_form Z r ≡ true → receipt_count r ≡ head.count
    → receipt_under_error Z head m r ≡ under_error head m (receipt_index r) (receipt_path r)
by_path Z head m r holds count =
    let same : (receipt_count r == head.count) ≡ true = (Decides-eqb (receipt_count r) head.count).1 count in
    rw (holds, same, has_place Z head r holds count) (one_less (nat_lt (2 ^ 60) (length m)) (led_refusal head (batch_leaf m) (receipt_index r) (receipt_path r)))

-- what is accepted under a head that opens
pub receipt_accepted : (Z : Scheme) (key bytes m r : List ℕ) → open_error Z key bytes ≡ None → receipt_under_error Z (head_in bytes) m r ≡ None
    → accept_error Z key m (receipt_under (head_in bytes) (receipt_index r) (receipt_path r)) ≡ None
receipt_accepted Z key bytes m r opens none =
    let head = head_in bytes in
    let last = led_refusal head (batch_leaf m) (receipt_index r) (receipt_path r) in
    let first = first_none (form_refusal Z r) (message_refusal Message m ∷ count_refusal head r ∷ last ∷ []) none in
    let second = first_none (message_refusal Message m) (count_refusal head r ∷ last ∷ []) first.1 in
    let third = first_none (count_refusal head r) (last ∷ []) second.1 in
    let holds : has_right_form Z r ≡ true = passed _ _ first.0 in
    let count : receipt_count r ≡ head.count = (Decides-eqb (receipt_count r) head.count).0 (passed _ _ third.0) in
    let form = form_of Z r holds in
    accepted_whole Z key bytes m (receipt_index r) (receipt_path r) opens (omega (arith, form.inside, form.few)) (wide_path Z r holds)
    (sym (by_path Z head m r holds count) ∙ none)

-- each receipt of a sealed batch is accepted under its head
pub receipt_taken : (Z : Scheme) (vk : List ℕ) (messages : List (List ℕ)) (sig : List ℕ) (i : ℕ) → i < length messages → length messages ≤ 2 ^ 20
    → length (get_or messages i []) ≤ 2 ^ 60
    → hash_verify_error Z Pure vk batch_context (batch_message (map batch_leaf messages)) sig ≡ None
    → receipt_under_error Z (head_in (head_of (map batch_leaf messages) sig)) (get_or messages i []) (receipt_of (map batch_leaf messages) sig i) ≡ None
receipt_taken Z vk messages sig i inside few short none =
    let q = map batch_leaf messages in
    let m = get_or messages i [] in
    let r = receipt_of q sig i in
    let head = head_in (head_of q sig) in
    let size : length q ≡ length messages = length-map messages batch_leaf in
    let h : i < length q = omega arith in
    let wide : Wide q = leaves_wide sha256 length-sha256 messages in
    let v = verified Z vk (batch_message q) sig none in
    let told = says q sig i h (omega arith) in
    let all = whole Z q sig i r told h (omega arith) wide v.len in
    let count : receipt_count r ≡ head.count = told.count ∙ sym (ap (λ said. said.count) (head_says messages sig (omega arith) few)) in
    by_path Z head m r (has_form Z r all.form) count
    ∙ ap (λ path. under_error head m (receipt_index r) path) all.path
    ∙ ap (λ k. under_error head m k (batch_path q i)) told.index
    ∙ message_under messages sig i inside few short
