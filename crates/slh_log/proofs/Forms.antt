-- What has no form.
use Rattle.std.proofs.Common.{◌≡◌, ℕ, ◌^◌, Bool, true, false, ◌&&◌, List, [], ◌∷◌, length, refl, sym, ap, ◌∙◌, arith, is_some}
use Rattle.std.specs.Prelude.{◌==◌, nat_le}
use Rattle.std.proofs.lemmas.Bool.{ne_eqb}
use Rattle.line_serve.specs.Fields.{field_at}
use Rattle.line_serve.specs.Lines.{parts}
use Rattle.slh_log.proofs.Cut.{after_last, after_on, no_signatures}
use Rattle.slh_log.specs.Reading.{after_text, are_signatures, bytes_value, has_form, size_value}

none_right : (p q : Bool) → q ≡ false → (p && q) ≡ false
none_right true q is = is
none_right false q is = refl

none_left : (p q : Bool) → p ≡ false → (p && q) ≡ false
none_left p q is = rw is refl

some_line : (x : ℕ) (line : List ℕ) → (length (x ∷ line) == 0) ≡ false
some_line x line = ne_eqb (length (x ∷ line)) 0 (omega arith)

no_text : (a b c : List ℕ) → (length a == 0) ≡ false → (length b == 0) ≡ false → (length c == 0) ≡ false → are_signatures (after_text (a ∷ b ∷ c ∷ [])) ≡ false
no_text a b c some_a some_b some_c =
    ap are_signatures (after_on a (b ∷ c ∷ []) some_a ∙ after_on b (c ∷ []) some_b ∙ after_last c) ∙ no_signatures

-- a form of three parts, the last of which no line feed ends
formless : (t : Bool) (a b c : List ℕ) → (t && nat_le 1 (length a) && is_some (size_value b) && is_some (bytes_value 32 c) && are_signatures (after_text (a ∷ b ∷ c ∷ []))) ≡ false
formless t [] b c = none_left _ _ (none_left _ _ (none_left _ _ (none_right t false refl)))
formless t (x ∷ a) [] c = none_left _ _ (none_left _ _ (none_right (t && nat_le 1 (length (x ∷ a))) false refl))
formless t (x ∷ a) (y ∷ b) [] = none_left _ _ (none_right (t && nat_le 1 (length (x ∷ a)) && is_some (size_value (y ∷ b))) false refl)
formless t (x ∷ a) (y ∷ b) (z ∷ c) =
    none_right (t && nat_le 1 (length (x ∷ a)) && is_some (size_value (y ∷ b)) && is_some (bytes_value 32 (z ∷ c))) (are_signatures (after_text ((x ∷ a) ∷ (y ∷ b) ∷ (z ∷ c) ∷ [])))
    (no_text (x ∷ a) (y ∷ b) (z ∷ c) (some_line x a) (some_line y b) (some_line z c))

pub no_third : (bytes a b c : List ℕ) → parts bytes ≡ a ∷ b ∷ c ∷ [] → has_form bytes ≡ false
no_third bytes a b c is =
    ap (λ p. nat_le (length bytes) (2 ^ 60) && nat_le 1 (length (field_at p 0)) && is_some (size_value (field_at p 1)) && is_some (bytes_value 32 (field_at p 2)) && are_signatures (after_text p)) is
    ∙ formless (nat_le (length bytes) (2 ^ 60)) a b c
