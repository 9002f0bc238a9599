-- What calls answer, of values that are computed somehow: names stand for them, so that a function's own
-- proof has nothing large to rewrite.
use Rattle.std.proofs.Common.{◌≡◌, ℕ, ◌≤◌, Bool, IsTrue, true, false, List, length, sym, ◌∙◌, refl}
use Rattle.std.proofs.Common.{Option, Result, Ok, Err}
use Rattle.std.specs.Str.{bytes_eq}
use Rattle.std.proofs.lemmas.Slice.Eq.{bytes_eq-Decides}
use Rattle.slh_audit.proofs.Binding.{sized_dispute}
use Rattle.slh_audit.proofs.Judging.{by_search, own_is_genuine}
use Rattle.slh_audit.proofs.OwnLayers.{all_own}
use Rattle.slh_audit.specs.Evidence.{IsOwnFrom, Parts, dispute, dispute_on, shows}
use Rattle.slh_audit.specs.Places.{first_evidence}
use Rattle.slh_audit.specs.Verdicts.{digest_audit, digest_of, digest_verdict, foreign_by, key_dispute, message_audit}
use Rattle.slh_audit.specs.declared.evidence.AuditError.{AuditError}
use Rattle.slh_audit.specs.declared.evidence.AuditError.TheVariants.{Invalid, KeyMismatch}
use Rattle.slh_audit.specs.declared.evidence.Evidence.{Evidence}
use Rattle.slh_audit.specs.declared.evidence.Verdict.{Verdict}
use Rattle.slh_audit.specs.declared.evidence.Verdict.TheVariants.{Genuine}
use Rattle.slh_core.specs.Bytes.{part}
use Rattle.slh_core.specs.Parameters.{Scheme}
use Rattle.slh_core.specs.Suite.{HasBytes, HasLength}
use Rattle.slh_trees.specs.Checking.{digest_root, forest_of, layers_of, signature_size}
use Rattle.slh_trees.specs.Keys.{top_root}
use Rattle.slh_trees.specs.MessageDigest.{split_digest}
use Rattle.slh_merkle.specs.Fors.{fors_sig}

-- what a key and a signature bring for a digest
abbrev pub parts_of : Scheme → List ℕ → List ℕ → List ℕ → List ℕ → Parts
parts_of Z s sk digest sig =
    let parts = split_digest Z digest in
    record {
      seed = s;
      sk = sk;
      t = parts.tree;
      l = parts.leaf;
      md = parts.md;
      forest = forest_of Z sig;
      layers = layers_of Z sig;
    }

-- a scheme under two names
module _ (Z Y : Scheme) (same : Z ≡ Y) (s sk digest sig : List ℕ) (x : Parts)
    (lengths : HasLength Y.suite Y.n) (bytes : HasBytes Y.suite) (n_high : Y.n ≤ 32) (layers : 1 ≤ Y.d) (low : 1 ≤ Y.hp)
    (size : length sig ≡ signature_size Z) (set : x ≡ parts_of Z s sk digest sig) where
  -- all parts are the key's own
  pub genuine_by_parts : (made : Bool) (lowest : ℕ)
      → (let D = dispute_on Y x in made ≡ bytes_eq D.forest (fors_sig D.K D.sk D.t D.l D.k D.a D.md))
      → IsOwnFrom (dispute_on Y x) lowest → IsTrue made × (lowest ≡ 0) → Genuine ≡ digest_verdict Z s sk digest sig
  genuine_by_parts made lowest told own both =
      let set_now = rw same at set in
      let D = dispute Y s sk digest sig in
      let sized = sized_dispute Y s sk digest sig lengths bytes n_high layers low (rw same at size) in
      let told_now = rw set_now at told in
      let forest = (bytes_eq-Decides D.forest (fors_sig D.K D.sk D.t D.l D.k D.a D.md)).0 (sym told_now ∙ both.0) in
      let upper = rw (set_now, both.1) at own in
      rw same (own_is_genuine Y s sk digest sig (all_own D sized.layers_len forest upper))

  -- the first evidence decides
  pub verdict_by_search : (found : Option Evidence) (given : Verdict) → found ≡ first_evidence (dispute_on Y x) → given ≡ foreign_by found
      → given ≡ digest_verdict Z s sk digest sig
  verdict_by_search found given is_found is_given =
      let size_now = rw same at size in
      let set_now = rw same at set in
      let found_now = rw set_now at is_found in
      let sized = sized_dispute Y s sk digest sig lengths bytes n_high layers low size_now in
      rw (same, is_given, found_now) (by_search Y s sk digest sig lengths sized size_now)

-- the audit for a digest, from the parts of a key of n bytes each
module _ (Z : Scheme) (n : ℕ) (size : Z.n ≡ n) (key digest sig sk s root own : List ℕ) (is_own : Bool)
    (is_sk : sk ≡ part n key 0) (is_s : s ≡ part n key 2) (is_root : root ≡ part n key 3)
    (made : own ≡ top_root Z s sk) (compared : is_own ≡ bytes_eq root own) where
  part_is : (i : ℕ) → part Z.n key i ≡ part n key i
  part_is i = rw size refl

  own_told : (b : Bool) → is_own ≡ b → bytes_eq (part Z.n key 3) (top_root Z (part Z.n key 2) (part Z.n key 0)) ≡ b
  own_told b holds =
      let at_n : bytes_eq (part n key 3) (top_root Z (part n key 2) (part n key 0)) ≡ b = rw (made, is_sk, is_s, is_root) at (sym compared ∙ holds) in
      rw (part_is 3, part_is 2, part_is 0) at_n

  pub mismatch_told : is_own ≡ false → ◌≡◌ {A = Result Verdict AuditError} (Err KeyMismatch) (digest_audit Z key digest sig)
  unfolding digest_audit
  mismatch_told differs = rw (own_told false differs) refl

  module _ (lead : List ℕ) (leads : Bool) (yes : is_own ≡ true)
      (is_lead : lead ≡ digest_root Z s digest sig) (lead_compared : leads ≡ bytes_eq lead root) where
    leads_told : (b : Bool) → leads ≡ b → bytes_eq (digest_root Z (part Z.n key 2) digest sig) (part Z.n key 3) ≡ b
    leads_told b holds =
        let at_n : bytes_eq (digest_root Z (part n key 2) digest sig) (part n key 3) ≡ b = rw (is_lead, is_s, is_root) at (sym lead_compared ∙ holds) in
        rw (part_is 2, part_is 3) at_n

    pub invalid_told : leads ≡ false → ◌≡◌ {A = Result Verdict AuditError} (Err Invalid) (digest_audit Z key digest sig)
    unfolding digest_audit
    invalid_told differs = rw (own_told true yes, leads_told false differs) refl

    pub judged_told : (given : Verdict) → leads ≡ true → given ≡ digest_verdict Z s sk digest sig
        → ◌≡◌ {A = Result Verdict AuditError} (Ok given) (digest_audit Z key digest sig)
    unfolding digest_audit
    judged_told given led is_given =
        let at_n : given ≡ digest_verdict Z (part n key 2) (part n key 0) digest sig = rw (is_s, is_sk) at is_given in
        rw (own_told true yes, leads_told true led, at_n, part_is 0, part_is 2) refl

-- the audit of a message is that for its digest
pub by_digest : (Z : Scheme) (key message sig digest : List ℕ) (answer : Result Verdict AuditError) → digest ≡ digest_of Z key message sig
    → answer ≡ digest_audit Z key digest sig → answer ≡ message_audit Z key message sig
unfolding digest_audit message_audit
by_digest Z key message sig digest answer is_digest is_answer = rw is_digest at is_answer

-- whether evidence shows, by two names of the scheme
pub shows_by_parts : (Z Y : Scheme) → Z ≡ Y → (s sk digest sig : List ℕ) (x : Parts) (e : Evidence) (shown : Bool) → x ≡ parts_of Z s sk digest sig
    → shown ≡ shows (dispute_on Y x) e → shown ≡ shows (dispute Z s sk digest sig) e
shows_by_parts Z Y same s sk digest sig x e shown set is_shown =
    let set_now = rw same at set in
    rw same (rw set_now at is_shown)

-- the same, from the parts of a key of n bytes each
pub shows_told : (Z : Scheme) (n : ℕ) (size : Z.n ≡ n) (key digest sig sk s : List ℕ) (e : Evidence) (shown : Bool)
    → sk ≡ part n key 0 → s ≡ part n key 2
    → shown ≡ shows (dispute Z s sk digest sig) e → shown ≡ shows (key_dispute Z key digest sig) e
shows_told Z n size key digest sig sk s e shown is_sk is_s is_shown =
    let part_is : (i : ℕ) → part Z.n key i ≡ part n key i = λ i. rw size refl in
    let at_n : shown ≡ shows (dispute Z (part n key 2) (part n key 0) digest sig) e = rw (is_sk, is_s) at is_shown in
    rw (part_is 0, part_is 2) at_n
