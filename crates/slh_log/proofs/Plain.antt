-- Lines that a checkpoint is made of have no line feed.
use Rattle.std.proofs.Common.{◌≡◌, ℕ, zero, suc, ◌+◌, ◌*◌, ◌/◌, ◌%◌, ◌<◌, ◌≤◌, ◌^◌, Bool, true, false, ◌&&◌, not, List, [], ◌∷◌, ◌++◌, replicate, length, slice_index, get_or, decimal, refl, sym, ap, ◌∙◌, arith}
use Rattle.std.specs.Bool.{◌==◌}
use Rattle.std.specs.Cmp.Derive.{both_true}
use Rattle.std.specs.List.{list_all}
use Rattle.std.specs.Str.Parse.{AllDigits}
use Rattle.std.proofs.lemmas.Bool.{and_parts, ltb-true, ne_eqb}
use Rattle.std.proofs.lemmas.Bool.Decides.{nat_tests}
use Rattle.std.proofs.lemmas.Fmt.{decimal_is_IsNumeral}
use Rattle.std.proofs.lemmas.List.Folds.{list_all-append}
use Rattle.std.proofs.lemmas.List.Splits.{slice_split_at}
use Rattle.std.proofs.lemmas.Str.Parse.{digit_from_value}
use Rattle.base64.specs.Engines.{standard}
use Rattle.base64.specs.GeneralPurpose.{engine_symbols}
use Rattle.base64.specs.Rfc4648.{encode_symbols, padding_len}
use Rattle.line_serve.specs.Lines.{HasNoLineFeed, parts}
use Rattle.slh_log.specs.Reading.{all_origin_bytes, is_origin_byte}
use Rattle.slh_log.specs.Texts.{base64_of}

abbrev pub is_plain : ℕ → Bool
is_plain b = not (b == 10)

abbrev pub are_plain : List ℕ → Bool
are_plain = list_all is_plain

not_feed : (b : ℕ) → is_plain b ≡ true → (b == 10) ≡ false
not_feed b h = flipped (b == 10) h
  where
    flipped : (t : Bool) → not t ≡ true → t ≡ false
    flipped true h = sym h
    flipped false h = refl

no_feed : (xs : List ℕ) → are_plain xs ≡ true → HasNoLineFeed xs
no_feed [] h k d lt = absurd (omega arith)
no_feed (x ∷ xs) h zero d lt = not_feed x (and_parts _ _ h).0
no_feed (x ∷ xs) h (suc k) d lt = no_feed xs (and_parts _ _ h).1 k d (omega arith)

-- a line is cut off
pub cut : (line rest : List ℕ) → are_plain line ≡ true → parts (line ++ 10 ∷ rest) ≡ line ∷ parts rest
cut line rest plain = slice_split_at (λ x. x == 10) line 10 rest (no_feed line plain) refl

pub joined : (a b : List ℕ) → are_plain a ≡ true → are_plain b ≡ true → are_plain (a ++ b) ≡ true
joined a b f g = list_all-append is_plain a b ∙ both_true f g

-- ---- origins

plain_byte : (b : ℕ) → is_origin_byte b ≡ true → is_plain b ≡ true
plain_byte b h = grind (arith, nat_tests)

pub plain_origin : (origin : List ℕ) → all_origin_bytes origin ≡ true → are_plain origin ≡ true
plain_origin [] h = refl
plain_origin (b ∷ origin) h = let both = and_parts _ _ h in both_true (plain_byte b both.0) (plain_origin origin both.1)

-- ---- numbers

plain_digit : (b : ℕ) → 48 ≤ b → is_plain b ≡ true
plain_digit b h = grind (arith, nat_tests)

plain_digits : (ds : List ℕ) → AllDigits 10 ds → are_plain ds ≡ true
plain_digits [] d = refl
plain_digits (c ∷ cs) d = both_true (plain_digit c (digit_from_value c d.0).0) (plain_digits cs d.1)

pub plain_decimal : (n : ℕ) → n < 2 ^ 64 → are_plain (decimal n) ≡ true
plain_decimal n h = plain_digits (decimal n) (decimal_is_IsNumeral n h).0.1

-- ---- symbols

at_index : (t : List ℕ) → are_plain t ≡ true → (i : ℕ) → is_plain (get_or t i 0) ≡ true
at_index [] h i = refl
at_index (x ∷ t) h zero = (and_parts _ _ h).0
at_index (x ∷ t) h (suc i) = at_index t (and_parts _ _ h).1 i

table : are_plain (engine_symbols standard) ≡ true
table = refl

symbol : (i : ℕ) → is_plain (slice_index (engine_symbols standard) i) ≡ true
symbol i = at_index (engine_symbols standard) table i

encoded : (m : List ℕ) → are_plain (encode_symbols (engine_symbols standard) m) ≡ true
unfolding encode_symbols
encoded [] = refl
encoded (a ∷ []) = both_true (symbol (a / 4)) (both_true (symbol (a % 4 * 16)) refl)
encoded (a ∷ b ∷ []) =
    both_true (symbol (a / 4)) (both_true (symbol (a % 4 * 16 + b / 16)) (both_true (symbol (b % 16 * 4)) refl))
encoded (a ∷ b ∷ c ∷ rest) =
    both_true (symbol (a / 4)) (both_true (symbol (a % 4 * 16 + b / 16))
    (both_true (symbol (b % 16 * 4 + c / 64)) (both_true (symbol (c % 64)) (encoded rest))))

padding : (n : ℕ) → are_plain (replicate n 61) ≡ true
padding zero = refl
padding (suc n) = padding n

pub plain_base64 : (m : List ℕ) → are_plain (base64_of m) ≡ true
plain_base64 m = joined (encode_symbols (engine_symbols standard) m) (replicate (padding_len (length m)) 61) (encoded m) (padding (padding_len (length m)))
