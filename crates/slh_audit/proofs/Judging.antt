-- What the parts of a signature say of its bytes.
use Rattle.std.proofs.Common.{◌≡◌, ℕ, ◌≤◌, List, length, take, arith, length-take}
use Rattle.std.specs.Str.{bytes_eq}
use Rattle.std.proofs.lemmas.Slice.Eq.{bytes_eq-Decides}
use Rattle.std.proofs.Common.{◌⊎◌, inl, inr, Some, Option, Result, Ok, Err, IfOk, ◌∙◌, sym, ap}
use Rattle.std.proofs.Common.{refl}
use Rattle.slh_audit.proofs.Binding.{IsSized, binding, made_from_own, none_shows, own_from_made}
use Rattle.slh_audit.proofs.Meaning.{dispute_of, shows_means}
use Rattle.slh_audit.proofs.Order.{none_found, shown_found, two}
use Rattle.slh_audit.proofs.OwnLayers.{not_true}
use Rattle.slh_audit.specs.Evidence.{shows}
use Rattle.slh_audit.specs.Places.{first_evidence, places}
use Rattle.slh_audit.specs.Verdicts.{IsGenuineExactly, digest_verdict, foreign_by, message_audit}
use Rattle.slh_audit.specs.declared.evidence.AuditError.{AuditError}
use Rattle.slh_audit.specs.declared.evidence.Verdict.{Verdict}
use Rattle.slh_audit.specs.declared.evidence.Verdict.TheVariants.{Foreign, Genuine}
use Rattle.slh_audit.specs.declared.evidence.Evidence.{Evidence}
use Rattle.slh_core.specs.Bytes.{part}
use Rattle.slh_core.specs.Suite.{HasBytes}
use Rattle.slh_trees.specs.Checking.{checked_root}
use Rattle.slh_trees.specs.Keys.{top_root}
use Rattle.slh_trees.specs.Signing.{signature_with}
use Rattle.std.proofs.Common.{false, true}
use Rattle.std.proofs.lemmas.Bool.{false≢true}
use Rattle.slh_audit.specs.Evidence.{IsOwn, dispute}
use Rattle.slh_core.specs.Parameters.{Scheme}
use Rattle.slh_core.specs.Suite.{HasLength}
use Rattle.slh_trees.specs.Checking.{signature_size}
use Rattle.slh_trees.specs.Signing.{digest_signature}

-- accepted bytes are those that the key makes, or the search finds evidence
pub made_or_found : (Z : Scheme) (key message sig : List ℕ) → HasLength Z.suite Z.n → HasBytes Z.suite → Z.n ≤ 32 → 1 ≤ Z.d → 1 ≤ Z.hp → length sig ≡ signature_size Z
    → checked_root Z (part Z.n key 2) (part Z.n key 3) message sig ≡ top_root Z (part Z.n key 2) (part Z.n key 0)
    → ((e : Evidence) × (first_evidence (dispute_of Z key message sig) ≡ Some e)) ⊎ (sig ≡ signature_with Z key (take Z.n sig) message)
made_or_found Z key message sig lengths bytes n_high layers low size leads =
    elim (binding Z key message sig lengths bytes n_high layers low size leads) [
      | inl found ↦ inl (shown_found (dispute_of Z key message sig) found.0 found.1)
      | inr made ↦ inr made
    ]

-- against bytes that the key makes nothing shows
pub none_against : (Z : Scheme) (s sk digest sig : List ℕ) (e : Evidence) → HasLength Z.suite Z.n → IsSized (dispute Z s sk digest sig) → length sig ≡ signature_size Z
    → sig ≡ digest_signature Z s sk (take Z.n sig) digest → shows (dispute Z s sk digest sig) e ≡ false
none_against Z s sk digest sig e law sized size made =
    let D = dispute Z s sk digest sig in
    let own = own_from_made Z s sk digest sig law (omega (arith, length-take Z.n sig)) made in
    not_true (shows D e) (λ holds. none_shows D sized own e ((shows_means D e).0 holds))

-- so the verdict on bytes is by the search, whether the key makes them or not
pub by_search : (Z : Scheme) (s sk digest sig : List ℕ) → HasLength Z.suite Z.n → IsSized (dispute Z s sk digest sig) → length sig ≡ signature_size Z
    → foreign_by (first_evidence (dispute Z s sk digest sig)) ≡ digest_verdict Z s sk digest sig
by_search Z s sk digest sig law sized size =
    let D = dispute Z s sk digest sig in
    let own = digest_signature Z s sk (take Z.n sig) digest in
    elim (two (bytes_eq sig own)) [
      | inl same ↦ rw (same, none_found (shows D) (places D) (λ e. none_against Z s sk digest sig e law sized size ((bytes_eq-Decides sig own).0 same))) refl
      | inr other ↦ rw other refl
    ]

-- bytes whose parts are the key's own are genuine
pub own_is_genuine : (Z : Scheme) (s sk digest sig : List ℕ) → IsOwn (dispute Z s sk digest sig) → Genuine ≡ digest_verdict Z s sk digest sig
own_is_genuine Z s sk digest sig own =
    let made = made_from_own Z s sk digest sig own in
    let same : bytes_eq sig (digest_signature Z s sk (take Z.n sig) digest) ≡ true = (bytes_eq-Decides _ _).1 made in
    rw same refl

abbrev given_or : Verdict → Result Verdict AuditError → Verdict
given_or other (Ok given) = given
given_or other (Err refusal) = other

ok_alike : (x y : Verdict) → ◌≡◌ {A = Result Verdict AuditError} (Ok x) (Ok y) → x ≡ y
ok_alike x y same = ap (given_or x) same

-- a verdict by evidence that was found is not `Genuine`
found_is_foreign : (found : Option Evidence) (e : Evidence) → found ≡ Some e → foreign_by found ≡ Genuine → ⊥
found_is_foreign found e is_some genuine = let no : ◌≡◌ {A = Verdict} (Foreign e) Genuine = rw is_some at genuine in absurd (cc no)

-- the two sides of a test of bytes and of the search
exactly : (Z : Scheme) (key message sig : List ℕ) (given : Verdict) → HasLength Z.suite Z.n → HasBytes Z.suite → Z.n ≤ 32 → 1 ≤ Z.d → 1 ≤ Z.hp → length sig ≡ signature_size Z
    → checked_root Z (part Z.n key 2) (part Z.n key 3) message sig ≡ top_root Z (part Z.n key 2) (part Z.n key 0)
    → digest_verdict Z (part Z.n key 2) (part Z.n key 0) (Z.suite.h_msg (take Z.n sig) (part Z.n key 2) (part Z.n key 3) message) sig ≡ given
    → IsGenuineExactly Z key message sig given
exactly Z key message sig given lengths bytes n_high layers low size leads is_given =
    let own = signature_with Z key (take Z.n sig) message in
    elim (two (bytes_eq sig own)) [
      | inl same ↦ (
        (λ genuine. (bytes_eq-Decides sig own).0 same),
        (λ made. sym is_given ∙ rw same refl),
      )
      | inr other ↦ elim (made_or_found Z key message sig lengths bytes n_high layers low size leads) [
        | inl found ↦ (
          (λ genuine. absurd (found_is_foreign _ found.0 found.1 (rw other at (is_given ∙ genuine)))),
          (λ made. absurd (false≢true (sym other ∙ (bytes_eq-Decides sig own).1 made))),
        )
        | inr made ↦ absurd (false≢true (sym other ∙ (bytes_eq-Decides sig own).1 made))
      ]
    ]

-- where there is a verdict, it is `Genuine` exactly for the bytes that the key makes
pub genuine_exactly : (Z : Scheme) (key message sig : List ℕ) (given : Verdict) → HasLength Z.suite Z.n → HasBytes Z.suite → Z.n ≤ 32 → 1 ≤ Z.d → 1 ≤ Z.hp → length sig ≡ signature_size Z
    → message_audit Z key message sig ≡ Ok given → IsGenuineExactly Z key message sig given
unfolding message_audit
genuine_exactly Z key message sig given lengths bytes n_high layers low size answered =
    let s = part Z.n key 2 in
    let root = part Z.n key 3 in
    let top = top_root Z s (part Z.n key 0) in
    let checked = checked_root Z s root message sig in
    elim (two (bytes_eq root top)) [
      | inl own ↦ elim (two (bytes_eq checked root)) [
        | inl leads ↦ exactly Z key message sig given lengths bytes n_high layers low size ((bytes_eq-Decides checked root).0 leads ∙ (bytes_eq-Decides root top).0 own) (ok_alike _ _ (rw (own, leads) at answered))
        | inr other ↦ absurd (cc (rw (own, other) at answered))
      ]
      | inr other ↦ absurd (cc (rw other at answered))
    ]

-- so it is of each answer that has one
pub if_genuine : (Z : Scheme) (key message sig : List ℕ) (answer : Result Verdict AuditError) → HasLength Z.suite Z.n → HasBytes Z.suite → Z.n ≤ 32 → 1 ≤ Z.d → 1 ≤ Z.hp → length sig ≡ signature_size Z
    → answer ≡ message_audit Z key message sig → IfOk answer (λ given. IsGenuineExactly Z key message sig given)
if_genuine Z key message sig (Ok given) lengths bytes n_high layers low size answered =
    genuine_exactly Z key message sig given lengths bytes n_high layers low size (sym answered)
if_genuine Z key message sig (Err refusal) lengths bytes n_high layers low size answered = tt
