-- Lines of signatures by one key.
use Rattle.std.proofs.Common.{◌≡◌, ℕ, List, [], ◌∷◌, length, drop, refl, sym, ◌∙◌, ap, inl, inr, Option, Some, None, MatchOption, Bool, true, false}
use Rattle.std.specs.Prelude.{◌==◌}
use Rattle.std.proofs.lemmas.Bool.{cases_Bool, true≢false}
use Rattle.line_serve.specs.Fields.{for_some}
use Rattle.slh_log.specs.Reading.{after_front, begins_with, bytes_value, first_some, own_signature, signature_in, signed_value, some_if}
use Rattle.slh_log.specs.Texts.{dash}

-- what a call that fills a slice says of a value
abbrev pub Fills : Option (List ℕ) → Bool → List ℕ → Type 0
Fills v done out = MatchOption v (done ≡ false) (λ bytes. (done ≡ true) × (out ≡ bytes))

pub stripped : (front bytes rest : List ℕ) → begins_with front bytes ≡ true → rest ≡ drop (length front) bytes → after_front front bytes ≡ Some rest
stripped front bytes rest begins is = rw (begins, ← is) refl

-- the symbols of a line
pub signature_is : (count : ℕ) (name id line named spaced symbols : List ℕ) → after_front dash line ≡ Some named → after_front name named ≡ Some spaced → after_front (32 ∷ []) spaced ≡ Some symbols
    → signature_in count name id line ≡ signed_value count id symbols
signature_is count name id line named spaced symbols first second third = rw (first, second, third) refl

pub signed_is : (count : ℕ) (id symbols b : List ℕ) → bytes_value count symbols ≡ Some b → begins_with id b ≡ true → signed_value count id symbols ≡ Some b
signed_is count id symbols b value begins = rw (value, begins) refl

-- the id is compared
checked : (v : Option (List ℕ)) (id out : List ℕ) (same : Bool) → Fills v true out → same ≡ begins_with id out
    → Fills (for_some v (λ b. some_if (begins_with id b) b)) same out
checked None id out same fills is = absurd (true≢false fills)
checked (Some b) id out same fills is = elim (cases_Bool (begins_with id b)) [
  | inl begins ↦ rw begins (is ∙ ap (begins_with id) fills.1 ∙ begins, fills.1)
  | inr other ↦ rw other (is ∙ ap (begins_with id) fills.1 ∙ other)
]

-- nothing is compared where there are no bytes
unchecked : (v : Option (List ℕ)) (id out : List ℕ) → Fills v false out → Fills (for_some v (λ b. some_if (begins_with id b) b)) false out
unchecked None id out fills = refl
unchecked (Some b) id out fills = absurd (true≢false (sym fills.0))

pub taken : (count : ℕ) (name id line named spaced symbols out : List ℕ) (same : Bool) → after_front dash line ≡ Some named → after_front name named ≡ Some spaced → after_front (32 ∷ []) spaced ≡ Some symbols
    → Fills (bytes_value count symbols) true out → same ≡ begins_with id out → Fills (signature_in count name id line) same out
taken count name id line named spaced symbols out same first second third fills is =
    rw (first, second, third) (checked (bytes_value count symbols) id out same fills is)

pub not_taken : (count : ℕ) (name id line named spaced symbols out : List ℕ) → after_front dash line ≡ Some named → after_front name named ≡ Some spaced → after_front (32 ∷ []) spaced ≡ Some symbols
    → Fills (bytes_value count symbols) false out → Fills (signature_in count name id line) false out
not_taken count name id line named spaced symbols out first second third fills =
    rw (first, second, third) (unchecked (bytes_value count symbols) id out fills)

-- ---- line after line

pub own_end : (count : ℕ) (name id line : List ℕ) → own_signature count name id (line ∷ []) ≡ None
unfolding own_signature
own_end count name id line = refl

pub own_on : (count : ℕ) (name id line : List ℕ) (later : List (List ℕ)) → (length later == 0) ≡ false
    → own_signature count name id (line ∷ later) ≡ first_some (signature_in count name id line) (own_signature count name id later)
unfolding own_signature
own_on count name id line later some = rw some refl

pub first_fills : (v later : Option (List ℕ)) (out : List ℕ) → Fills v true out → Fills (first_some v later) true out
first_fills None later out fills = absurd (true≢false fills)
first_fills (Some b) later out fills = fills

pub first_none : (v later : Option (List ℕ)) (out : List ℕ) → Fills v false out → first_some v later ≡ later
first_none None later out fills = refl
first_none (Some b) later out fills = absurd (true≢false (sym fills.0))

-- what was filled in

pub is_filled : (v : Option (List ℕ)) (out : List ℕ) → Fills v true out → v ≡ Some out
is_filled None out fills = absurd (true≢false fills)
is_filled (Some b) out fills = ap Some (sym fills.1)

pub not_filled : (v : Option (List ℕ)) (out : List ℕ) → Fills v false out → v ≡ None
not_filled None out fills = refl
not_filled (Some b) out fills = absurd (true≢false (sym fills.0))
