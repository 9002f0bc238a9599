-- Where one field ends and the next begins can't be mistaken.
use Rattle.std.proofs.Common.{◌≡◌, ℕ, ◌^◌, ◌<◌, List, [], ◌∷◌, ◌++◌, length, refl, sym, ap, ◌∙◌, arith, append_assoc, decimal, drop}
use Rattle.std.specs.Str.Parse.{AllDigits}
use Rattle.std.proofs.lemmas.Fmt.{decimal_injective, decimal_is_IsNumeral}
use Rattle.std.proofs.lemmas.Str.Parse.{digit_from_value}
use Rattle.std.specs.Char.{digit_value}
use Rattle.dsse.specs.Encoding.{field, pae}

no_digit : (c : ℕ) → digit_value c < 10 → c ≡ 32 → ⊥
no_digit c low is = omega (arith, digit_from_value c low)

-- digits end at the first space
number_ends : (m n x y : List ℕ) → AllDigits 10 m → AllDigits 10 n → m ++ 32 ∷ x ≡ n ++ 32 ∷ y → (m ≡ n) × (x ≡ y)
number_ends [] [] x y d e same = (refl, cc)
number_ends [] (c ∷ n) x y d e same = absurd (no_digit c e.0 cc)
number_ends (c ∷ m) [] x y d e same = absurd (no_digit c d.0 cc)
number_ends (b ∷ m) (c ∷ n) x y d e same =
    let rest : m ++ 32 ∷ x ≡ n ++ 32 ∷ y = cc in
    let more = number_ends m n x y d.1 e.1 rest in
    let head : b ≡ c = cc in
    let tail : m ≡ n = more.0 in
    (cc, more.1)

-- texts of one length end where the other does
text_ends : (a b x y : List ℕ) → length a ≡ length b → a ++ x ≡ b ++ y → (a ≡ b) × (x ≡ y)
text_ends [] [] x y len same = (refl, same)
text_ends [] (c ∷ b) x y len same = absurd (omega (arith, len))
text_ends (c ∷ a) [] x y len same = absurd (omega (arith, len))
text_ends (c ∷ a) (d ∷ b) x y len same =
    let rest : a ++ x ≡ b ++ y = cc in
    let more = text_ends a b x y (omega (arith, len)) rest in
    let head : c ≡ d = cc in
    let tail : a ≡ b = more.0 in
    (cc, more.1)

field_ends : (a b x y : List ℕ) → length a < 2 ^ 64 → length b < 2 ^ 64 → field a ++ x ≡ field b ++ y → (a ≡ b) × (x ≡ y)
field_ends a b x y low_a low_b same =
    let m = decimal (length a) in
    let n = decimal (length b) in
    let left : field a ++ x ≡ 32 ∷ (m ++ 32 ∷ (a ++ x)) = ap (λ l. 32 ∷ l) (append_assoc m (32 ∷ a) x) in
    let right : field b ++ y ≡ 32 ∷ (n ++ 32 ∷ (b ++ y)) = ap (λ l. 32 ∷ l) (append_assoc n (32 ∷ b) y) in
    let cut : m ++ 32 ∷ (a ++ x) ≡ n ++ 32 ∷ (b ++ y) = ap (drop 1) (sym left ∙ same ∙ right) in
    let both = number_ends m n (a ++ x) (b ++ y) (decimal_is_IsNumeral (length a) low_a).0.1 (decimal_is_IsNumeral (length b) low_b).0.1 cut in
    text_ends a b x y (decimal_injective (length a) (length b) low_a low_b both.0) both.1

pub pae_injective : (t p u q : List ℕ) → length t < 2 ^ 64 → length p < 2 ^ 64 → length u < 2 ^ 64 → length q < 2 ^ 64
    → pae t p ≡ pae u q → (t ≡ u) × (p ≡ q)
pae_injective t p u q low_t low_p low_u low_q same =
    let fields : field t ++ field p ≡ field u ++ field q = ap (drop 6) same in
    let both = field_ends t u (field p) (field q) low_t low_u fields in
    let last : field p ++ [] ≡ field q ++ [] = ap (λ l. l ++ []) both.1 in
    (both.0, (field_ends p q [] [] low_p low_q last).0)
