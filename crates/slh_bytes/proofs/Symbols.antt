-- The symbols of Base64 are no dashes and no blanks.
use Rattle.std.proofs.Common.{◌≡◌, ℕ, ◌+◌, ◌*◌, ◌/◌, ◌%◌, zero, suc, Bool, true, ◌&&◌, not, List, [], ◌∷◌, ◌++◌, replicate, length, take, drop, slice_index, get_or, refl, ◌∙◌}
use Rattle.std.specs.Bool.{◌==◌}
use Rattle.std.specs.Cmp.Derive.{both_true}
use Rattle.std.specs.List.{list_all}
use Rattle.std.proofs.lemmas.Bool.{and_parts}
use Rattle.std.proofs.lemmas.List.Folds.{list_all-append}
use Rattle.base64.specs.Engines.{standard}
use Rattle.base64.specs.GeneralPurpose.{encode_of, engine_symbols}
use Rattle.base64.specs.Rfc4648.{encode_symbols, padding_len}
use Rattle.slh_bytes.specs.Lines.{is_blank, squeezed}

abbrev pub is_symbol : ℕ → Bool
is_symbol b = not (b == 45) && not (is_blank b)

abbrev pub are_symbols : List ℕ → Bool
are_symbols = list_all is_symbol

at_index : (t : List ℕ) → are_symbols t ≡ true → (i : ℕ) → is_symbol (get_or t i 0) ≡ true
at_index [] h i = refl
at_index (x ∷ t) h zero = (and_parts _ _ h).0
at_index (x ∷ t) h (suc i) = at_index t (and_parts _ _ h).1 i

joined : (a b : List ℕ) → are_symbols a ≡ true → are_symbols b ≡ true → are_symbols (a ++ b) ≡ true
joined a b f g = list_all-append is_symbol a b ∙ both_true f g

table : are_symbols (engine_symbols standard) ≡ true
table = refl

symbol : (i : ℕ) → is_symbol (slice_index (engine_symbols standard) i) ≡ true
symbol i = at_index (engine_symbols standard) table i

encoded : (m : List ℕ) → are_symbols (encode_symbols (engine_symbols standard) m) ≡ true
unfolding encode_symbols
encoded [] = refl
encoded (a ∷ []) = both_true (symbol (a / 4)) (both_true (symbol (a % 4 * 16)) refl)
encoded (a ∷ b ∷ []) =
    both_true (symbol (a / 4)) (both_true (symbol (a % 4 * 16 + b / 16)) (both_true (symbol (b % 16 * 4)) refl))
encoded (a ∷ b ∷ c ∷ rest) =
    both_true (symbol (a / 4)) (both_true (symbol (a % 4 * 16 + b / 16))
    (both_true (symbol (b % 16 * 4 + c / 64)) (both_true (symbol (c % 64)) (encoded rest))))

padding : (n : ℕ) → are_symbols (replicate n 61) ≡ true
padding zero = refl
padding (suc n) = padding n

pub base64_symbols : (m : List ℕ) → are_symbols (encode_of standard m) ≡ true
base64_symbols m =
    joined (encode_symbols (engine_symbols standard) m) (replicate (padding_len (length m)) 61) (encoded m) (padding (padding_len (length m)))

-- text of symbols is found whole without its blanks
pub kept : (m : List ℕ) → are_symbols m ≡ true → squeezed m ≡ m
kept [] h = refl
kept (x ∷ m) h =
    let both = and_parts _ _ h in
    let plain : not (is_blank x) ≡ true = (and_parts _ _ both.0).1 in
    rw (plain, kept m both.1) refl

pub taken : (n : ℕ) (m : List ℕ) → are_symbols m ≡ true → are_symbols (take n m) ≡ true
taken zero m h = refl
taken (suc n) [] h = refl
taken (suc n) (x ∷ m) h = let both = and_parts _ _ h in both_true both.0 (taken n m both.1)

pub dropped : (n : ℕ) (m : List ℕ) → are_symbols m ≡ true → are_symbols (drop n m) ≡ true
dropped zero m h = h
dropped (suc n) [] h = refl
dropped (suc n) (x ∷ m) h = dropped n m (and_parts _ _ h).1

-- no dash is in these bytes
abbrev pub is_other : ℕ → Bool
is_other b = not (b == 45)

abbrev pub no_dash : List ℕ → Bool
no_dash = list_all is_other

pub no_dash-append : (a b : List ℕ) → no_dash a ≡ true → no_dash b ≡ true → no_dash (a ++ b) ≡ true
no_dash-append a b f g = list_all-append is_other a b ∙ both_true f g

pub undashed : (m : List ℕ) → are_symbols m ≡ true → no_dash m ≡ true
undashed [] h = refl
undashed (x ∷ m) h =
    let both = and_parts _ _ h in both_true (and_parts _ _ both.0).0 (undashed m both.1)
