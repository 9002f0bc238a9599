-- Records and restoring undo each other.
use Rattle.std.proofs.Common.{◌≡◌, ℕ, suc, ◌*◌, List, [], ◌∷◌, map, length, drop, Bool, true, false, Option, None, Some, Result, Ok, Err, if◌then◌else◌, refl, sym, ◌∙◌, ap, subst, arith, length-take}
use Rattle.std.specs.List.{All}
use Rattle.std.specs.Str.{bytes_eq}
use Rattle.std.proofs.lemmas.List.Elements.{All-cons, All-nil}
use Rattle.std.proofs.lemmas.Slice.Eq.{bytes_eq-Decides}
use Rattle.sha256_lanes.proofs.Digest.{length-sha256}
use Rattle.sha256_lanes.specs.Sha256.{sha256}
use Rattle.slh_core.specs.Parameters.{Scheme}
use Rattle.slh_ring.proofs.Forms.{record_read, record_written}
use Rattle.slh_ring.specs.Keys.{key_tag, ring_bytes, ring_key, tagged}
use Rattle.slh_ring.specs.Records.{AreBytes, Entry, IsRecordOf, has_form, paths_of, record_bytes, recorded}
use Rattle.slh_ring.specs.Restores.{first_mismatch, matching, restore_answer}
use Rattle.slh_ring.specs.Rings.{IsRing}
use Rattle.slh_ring.specs.declared.error.RestoreError.{RestoreError}
use Rattle.slh_ring.specs.declared.error.RestoreError.TheVariants.{Form}

module _ (Z : Scheme) (name master : List ℕ) where
  tag_len : (path : List ℕ) → length (key_tag Z name master path) ≡ 8
  unfolding key_tag
  tag_len path =
      let digest = sha256 (drop (2 * Z.n) (ring_key Z name master path)) in
      omega (arith, length-take 8 digest, length-sha256 (drop (2 * Z.n) (ring_key Z name master path)))

  tags_len : (paths : List (List ℕ)) → All (λ (e : Entry). length e.tag ≡ 8) (map (tagged Z name master) paths)
  tags_len [] = All-nil (λ (e : Entry). length e.tag ≡ 8)
  tags_len (p ∷ ps) = All-cons (λ (e : Entry). length e.tag ≡ 8) (tagged Z name master p) (map (tagged Z name master) ps) (tag_len p) (tags_len ps)

  paths_back : (paths : List (List ℕ)) → paths_of (map (tagged Z name master) paths) ≡ paths
  paths_back [] = refl
  paths_back (p ∷ ps) = ap (λ l. p ∷ l) (paths_back ps)

  all_match : (i : ℕ) (paths : List (List ℕ)) → first_mismatch Z name master i (map (tagged Z name master) paths) ≡ None
  all_match i [] = refl
  all_match i (p ∷ ps) =
      let same : bytes_eq (key_tag Z name master p) (key_tag Z name master p) ≡ true = (bytes_eq-Decides (key_tag Z name master p) (key_tag Z name master p)).1 refl in
      ap (λ b. if b then first_mismatch Z name master (suc i) (map (tagged Z name master) ps) else Some i) same ∙ all_match (suc i) ps

  -- the record of a ring gives the ring
  pub undone : (paths : List (List ℕ)) → IsRing paths → restore_answer Z name master (ring_bytes Z name master paths) ≡ Ok paths
  undone paths ring =
      let entries = map (tagged Z name master) paths in
      let read = record_read name entries (ring_bytes Z name master paths) record { ring = rw (paths_back paths) ring; tags = tags_len paths; layout = refl } in
      ap (λ b. if b then matching (first_mismatch Z name master 0 (recorded name (ring_bytes Z name master paths))) (paths_of (recorded name (ring_bytes Z name master paths))) else Err Form) read.form
      ∙ ap (λ es. matching (first_mismatch Z name master 0 es) (paths_of es)) read.same
      ∙ ap (λ m. matching m (paths_of entries)) (all_match 0 paths) ∙ ap (λ ps. matching None ps) (paths_back paths)

  chosen : (b : Bool) (x : Option ℕ) (i : ℕ) → (if b then x else Some i) ≡ None → (b ≡ true) × (x ≡ None)
  chosen true x i none = (refl, none)
  chosen false x i none = cc

  -- entries without a mismatch are those of their paths
  retagged : (i : ℕ) (entries : List Entry) → first_mismatch Z name master i entries ≡ None → entries ≡ map (tagged Z name master) (paths_of entries)
  retagged i [] none = refl
  retagged i (e ∷ es) none =
      let step = chosen (bytes_eq e.tag (key_tag Z name master e.path)) (first_mismatch Z name master (suc i) es) i none in
      let tag : e.tag ≡ key_tag Z name master e.path = (bytes_eq-Decides _ _).0 step.0 in
      ap (λ (t : List ℕ). record { path = e.path; tag = t } ∷ es) tag ∙ ap (λ l. tagged Z name master e.path ∷ l) (retagged (suc i) es step.1)

  -- what restoring answers tells
  pub record Restored (bytes : List ℕ) (paths : List (List ℕ)) : Type 0 where
    pub ring : IsRing paths
    pub layout : bytes ≡ ring_bytes Z name master paths

  from_matching : (m : Option ℕ) (ps paths : List (List ℕ)) → matching m ps ≡ Ok paths → (m ≡ None) × (ps ≡ paths)
  from_matching None ps paths ok = (refl, cc)
  from_matching (Some i) ps paths ok = cc

  answered : (b : Bool) (r : Result (List (List ℕ)) RestoreError) (paths : List (List ℕ)) → (if b then r else Err Form) ≡ Ok paths → (b ≡ true) × (r ≡ Ok paths)
  answered true r paths ok = (refl, ok)
  answered false r paths ok = cc

  -- a ring that is given has the bytes as its record
  pub restored : (bytes : List ℕ) (paths : List (List ℕ)) → restore_answer Z name master bytes ≡ Ok paths → AreBytes bytes → Restored bytes paths
  restored bytes paths ok small =
      let entries = recorded name bytes in
      let step = answered (has_form name bytes) (matching (first_mismatch Z name master 0 entries) (paths_of entries)) paths ok in
      let found = from_matching (first_mismatch Z name master 0 entries) (paths_of entries) paths step.1 in
      let written = record_written name bytes step.0 small in
      record {
        ring = subst IsRing found.1 written.ring;
        layout = written.layout ∙ ap (record_bytes name) (retagged 0 entries found.0)
            ∙ ap (λ ps. record_bytes name (map (tagged Z name master) ps)) found.1;
      }

  never_form : (m : Option ℕ) (ps : List (List ℕ)) → matching m ps ≡ Err Form → ⊥
  never_form None ps refused = cc
  never_form (Some i) ps refused = cc

  -- a layout isn't refused for its form
  pub form_stands : (bytes : List ℕ) (entries : List Entry) → IsRecordOf name entries bytes → restore_answer Z name master bytes ≡ Err Form → ⊥
  form_stands bytes entries is_record refused =
      let read = record_read name entries bytes is_record in
      let chosen_by : (if has_form name bytes then matching (first_mismatch Z name master 0 (recorded name bytes)) (paths_of (recorded name bytes)) else Err Form)
      ≡ matching (first_mismatch Z name master 0 (recorded name bytes)) (paths_of (recorded name bytes))
      = ap (λ b. if b then matching (first_mismatch Z name master 0 (recorded name bytes)) (paths_of (recorded name bytes)) else Err Form) read.form in
      never_form _ _ (sym chosen_by ∙ refused)

  unchosen : (b : Bool) (r : Result (List (List ℕ)) RestoreError) → (b ≡ true → ⊥) → (if b then r else Err Form) ≡ Err Form
  unchosen true r never = absurd (never refl)
  unchosen false r never = refl

  -- bytes that are no layout are refused for their form
  pub form_falls : (bytes : List ℕ) → ((entries : List Entry) → IsRecordOf name entries bytes → ⊥) → AreBytes bytes → restore_answer Z name master bytes ≡ Err Form
  form_falls bytes none small =
      let entries = recorded name bytes in
      unchosen (has_form name bytes) (matching (first_mismatch Z name master 0 entries) (paths_of entries)) (λ form. none entries (record_written name bytes form small))
