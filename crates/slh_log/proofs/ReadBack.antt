-- Sizes and bytes that are written are read.
use Rattle.std.proofs.Common.{◌≡◌, ℕ, zero, suc, ◌+◌, ◌-◌, ◌*◌, ◌/◌, ◌%◌, ◌<◌, ◌≤◌, ◌^◌, true, List, [], ◌∷◌, ◌++◌, replicate, length, decimal, refl, sym, ap, ◌∙◌, arith, Option, Some, None, Ok}
use Rattle.std.specs.Bool.{◌==◌}
use Rattle.std.specs.Str.Parse.{AllDigits, digits_value_after}
use Rattle.std.specs.Char.{digit_value}
use Rattle.std.proofs.lemmas.Bool.{eq-eqb, le-leb, lt-ltb}
use Rattle.std.proofs.lemmas.Bool.Decides.{Decides-eqb, nat_tests}
use Rattle.std.proofs.lemmas.Fmt.{decimal_is_IsNumeral, decimal_nonempty, length-decimal-le}
use Rattle.std.proofs.lemmas.List.{length-append, length-replicate}
use Rattle.std.proofs.lemmas.Slice.Eq.{bytes_eq-Decides}
use Rattle.std.proofs.lemmas.Str.{digit_value_digit}
use Rattle.std.proofs.lemmas.Str.Parse.{digit_from_value}
use Rattle.base64.specs.Engines.{standard}
use Rattle.base64.specs.GeneralPurpose.{IsBytes, decode_of, encode_of, encoded_size_of, engine_symbols}
use Rattle.base64.specs.Rfc4648.{encode_symbols, padding_len}
use Rattle.base64.proofs.EngineFacts.{decode_of-encode_of}
use Rattle.base64.proofs.RoundTrip.{length-encode_symbols}
use Rattle.line_serve.specs.Decimals.{decimal_value, is_digit, read_digits}
use Rattle.slh_log.specs.Reading.{bytes_value, size_value}
use Rattle.slh_log.specs.Texts.{base64_of}

digit : (c : ℕ) → 48 ≤ c → c ≤ 57 → is_digit c ≡ true
digit c low high = grind (arith, nat_tests)

rises : (n : ℕ) (ds : List ℕ) → n ≤ digits_value_after 10 n ds
rises n [] = omega arith
rises n (c ∷ cs) = omega (arith, rises (n * 10 + digit_value c) cs)

read_on : (limit n : ℕ) (ds : List ℕ) → AllDigits 10 ds → digits_value_after 10 n ds < limit → read_digits limit n ds ≡ Some (digits_value_after 10 n ds)
read_on limit n [] d low = refl
read_on limit n (c ∷ cs) d low =
    let k = digit_from_value c d.0 in
    let value : c - 48 ≡ digit_value c = omega (arith, digit_value_digit c k) in
    let small : n * 10 + (c - 48) < limit = omega (arith, value, rises (n * 10 + digit_value c) cs) in
    let step : read_digits limit n (c ∷ cs) ≡ read_digits limit (n * 10 + (c - 48)) cs = rw (digit c k.0 k.1, lt-ltb (n * 10 + (c - 48)) limit small) refl in
    step ∙ ap (λ v. read_digits limit (n * 10 + v) cs) value ∙ read_on limit (n * 10 + digit_value c) cs d.1 low

pub size_read : (n : ℕ) → n < 2 ^ 64 → size_value (decimal n) ≡ Some n
size_read n low =
    let numeral = decimal_is_IsNumeral n low in
    let value : digits_value_after 10 0 (decimal n) ≡ n = numeral.1 in
    let read : read_digits (2 ^ 64) 0 (decimal n) ≡ Some n = read_on (2 ^ 64) 0 (decimal n) numeral.0.1 (omega (arith, value)) ∙ ap Some value in
    let some : 1 ≤ length (decimal n) = omega (arith, decimal_nonempty n low) in
    let few : length (decimal n) ≤ 20 = length-decimal-le 20 n (omega arith) (omega arith) low in
    rw (le-leb 1 (length (decimal n)) some, le-leb (length (decimal n)) 20 few, read, (bytes_eq-Decides (decimal n) (decimal n)).1 refl) refl

pub symbols_size : (m : List ℕ) → length (base64_of m) ≡ encoded_size_of standard (length m)
symbols_size m =
    length-append (encode_symbols (engine_symbols standard) m) (replicate (padding_len (length m)) 61)
    ∙ rw (length-encode_symbols (engine_symbols standard) m, length-replicate {A = ℕ} (padding_len (length m)) 61) refl

pub bytes_read : (m : List ℕ) (n : ℕ) → IsBytes m → length m ≡ n → bytes_value n (base64_of m) ≡ Some m
bytes_read m n bytes size =
    let long : length (base64_of m) ≡ encoded_size_of standard n = symbols_size m ∙ ap (encoded_size_of standard) size in
    rw ((Decides-eqb _ _).1 long, decode_of-encode_of standard m refl bytes, (Decides-eqb _ _).1 size) refl
