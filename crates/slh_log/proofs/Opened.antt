-- What a checkpoint that is opened was made of.
use Rattle.std.proofs.Common.{◌≡◌, ℕ, zero, suc, ◌+◌, ◌-◌, ◌<◌, ◌≤◌, ◌^◌, Bool, true, false, ◌&&◌, List, [], ◌∷◌, ◌++◌, length, take, drop, decimal, refl, sym, ap, subst, ◌∙◌, arith, inl, inr, Option, Some, None, Result, Ok, Err}
use Rattle.std.specs.Bool.{◌==◌}
use Rattle.std.specs.List.{join_with_byte, slice_split}
use Rattle.std.specs.Result.{result_ok}
use Rattle.std.specs.Str.{bytes_eq}
use Rattle.std.proofs.lemmas.Bool.{cases_Bool, ne_eqb, true≢false}
use Rattle.std.proofs.lemmas.Bool.Decides.{Decides-eqb}
use Rattle.std.proofs.lemmas.Fmt.{decimal_injective}
use Rattle.std.proofs.lemmas.List.{append_assoc, drop_at, length-append, take_at}
use Rattle.std.proofs.lemmas.List.Splits.{join_with_byte-slice_split}
use Rattle.std.proofs.lemmas.Slice.Eq.{bytes_eq-Decides}
use Rattle.std.proofs.Math.Seq.{take-append-add}
use Rattle.base64.specs.Engines.{standard}
use Rattle.base64.specs.GeneralPurpose.{IsBytes, decode_of, encoded_size_of}
use Rattle.base64.specs.declared.decode.DecodeError.{DecodeError}
use Rattle.base64.proofs.EngineFacts.{decode_of_strict}
use Rattle.line_serve.specs.Decimals.{decimal_value}
use Rattle.line_serve.specs.Fields.{field_at, for_some}
use Rattle.line_serve.specs.Lines.{parts}
use Rattle.slh_log.proofs.Cut.{after_last, after_on, no_signatures, text_on}
use Rattle.slh_log.proofs.Plain.{are_plain, cut, plain_base64, plain_decimal}
use Rattle.slh_log.proofs.ReadBack.{bytes_read}
use Rattle.slh_log.specs.Reading.{after_text, are_signatures, bytes_value, line_at, read_root, read_size, read_text, size_value, some_if, text_len}
use Rattle.slh_log.specs.Texts.{base64_of, checkpoint_text}

no_value : {A : Type 0} {x : A} → None ≡ Some x → ⊥
no_value is = cc is

-- ---- what a line is

number_is : (v : Option ℕ) (line : List ℕ) (n : ℕ) → for_some v (λ m. some_if (bytes_eq (decimal m) line) m) ≡ Some n → line ≡ decimal n
number_is None line n is = cc is
number_is (Some m) line n is = elim (cases_Bool (bytes_eq (decimal m) line)) [
  | inl same ↦ (let found : Some m ≡ Some n = rw same at is in
      let one : m ≡ n = cc found in
      sym ((bytes_eq-Decides (decimal m) line).0 same) ∙ ap decimal one)
  | inr other ↦ (let none : None ≡ Some n = rw other at is in cc none)
]

pub size_is_decimal : (line : List ℕ) (n : ℕ) → size_value line ≡ Some n → line ≡ decimal n
size_is_decimal line n is = number_is (decimal_value 20 (2 ^ 64) line) line n is

sized_is : (d : Result (List ℕ) DecodeError) (count : ℕ) (b : List ℕ) → for_some (result_ok d) (λ x. some_if (length x == count) x) ≡ Some b → d ≡ Ok b
sized_is (Err e) count b is = cc is
sized_is (Ok x) count b is = elim (cases_Bool (length x == count)) [
  | inl same ↦ (let found : Some x ≡ Some b = rw same at is in
      let one : x ≡ b = cc found in ap Ok one)
  | inr other ↦ (let none : None ≡ Some b = rw other at is in cc none)
]

pub bytes_are_base64 : (line : List ℕ) (count : ℕ) (b : List ℕ) → IsBytes line → bytes_value count line ≡ Some b → line ≡ base64_of b
bytes_are_base64 line count b bytes is = elim (cases_Bool (length line == encoded_size_of standard count)) [
  | inl size ↦ (let found : for_some (result_ok (decode_of standard line)) (λ x. some_if (length x == count) x) ≡ Some b = rw size at is in
      decode_of_strict standard line b (refl, refl) bytes (sized_is (decode_of standard line) count b found))
  | inr other ↦ (let none : None ≡ Some b = rw other at is in cc none)
]

-- ---- lines joined again

pub join_on : (line next : List ℕ) (later : List (List ℕ)) → join_with_byte 10 (line ∷ next ∷ later) ≡ line ++ 10 ∷ join_with_byte 10 (next ∷ later)
join_on line next later = refl

one_more : (k : ℕ) (rest : List ℕ) → take (1 + k) (10 ∷ rest) ≡ 10 ∷ take k rest
one_more k rest = let more : 1 + k ≡ suc k = omega arith in rw more refl

pub text_of_line : (line next : List ℕ) (later : List (List ℕ)) → (length line == 0) ≡ false
    → take (text_len (line ∷ next ∷ later)) (join_with_byte 10 (line ∷ next ∷ later)) ≡ line ++ 10 ∷ take (text_len (next ∷ later)) (join_with_byte 10 (next ∷ later))
text_of_line line next later some =
    let size : text_len (line ∷ next ∷ later) ≡ length line + (1 + text_len (next ∷ later)) = text_on line (next ∷ later) some ∙ omega arith in
    ap (λ k. take k (line ++ 10 ∷ join_with_byte 10 (next ∷ later))) size
    ∙ take-append-add line (10 ∷ join_with_byte 10 (next ∷ later)) (1 + text_len (next ∷ later))
    ∙ ap (λ r. line ++ r) (one_more (text_len (next ∷ later)) (join_with_byte 10 (next ∷ later)))

pub joined_parts : (bytes : List ℕ) → join_with_byte 10 (parts bytes) ≡ bytes
joined_parts bytes = join_with_byte-slice_split 10 bytes

-- ---- texts are of one head

heads : (a b : List ℕ) (p q : List (List ℕ)) → a ∷ p ≡ b ∷ q → (a ≡ b) × (p ≡ q)
heads a b p q is = (cc is, cc is)

spread : (o : List ℕ) (n : ℕ) (r e : List ℕ) → checkpoint_text o n r ++ e ≡ o ++ 10 ∷ (decimal n ++ 10 ∷ (base64_of r ++ 10 ∷ e))
spread o n r e =
    append_assoc o (10 ∷ (decimal n ++ 10 ∷ (base64_of r ++ 10 ∷ []))) e
    ∙ ap (λ x. o ++ 10 ∷ x) (append_assoc (decimal n) (10 ∷ (base64_of r ++ 10 ∷ [])) e
    ∙ ap (λ x. decimal n ++ 10 ∷ x) (append_assoc (base64_of r) (10 ∷ []) e))

lines_of : (o : List ℕ) (n : ℕ) (r e : List ℕ) → are_plain o ≡ true → n < 2 ^ 64 → parts (checkpoint_text o n r ++ e) ≡ o ∷ decimal n ∷ base64_of r ∷ parts e
lines_of o n r e plain low =
    ap parts (spread o n r e)
    ∙ cut o (decimal n ++ 10 ∷ (base64_of r ++ 10 ∷ e)) plain
    ∙ ap (λ x. o ∷ x) (cut (decimal n) (base64_of r ++ 10 ∷ e) (plain_decimal n low)
    ∙ ap (λ x. decimal n ∷ x) (cut (base64_of r) e (plain_base64 r)))

pub texts_bind : (o o' : List ℕ) (n n' : ℕ) (r r' e e' : List ℕ) → are_plain o ≡ true → are_plain o' ≡ true → n < 2 ^ 64 → n' < 2 ^ 64 → IsBytes r → IsBytes r' → length r ≡ 32 → length r' ≡ 32
    → checkpoint_text o n r ++ e ≡ checkpoint_text o' n' r' ++ e' → (o ≡ o') × (n ≡ n') × (r ≡ r')
texts_bind o o' n n' r r' e e' plain plain' low low' bytes bytes' size size' same =
    let cuts = sym (lines_of o n r e plain low) ∙ ap parts same ∙ lines_of o' n' r' e' plain' low' in
    let first = heads o o' _ _ cuts in
    let second = heads (decimal n) (decimal n') _ _ first.1 in
    let third = heads (base64_of r) (base64_of r') _ _ second.1 in
    let root : Some r ≡ Some r' = sym (bytes_read r 32 bytes size) ∙ ap (bytes_value 32) third.0 ∙ bytes_read r' 32 bytes' size' in
    (first.0, decimal_injective n n' low low' second.0, cc root)

-- ---- the text of a checkpoint

no_root : bytes_value 32 [] ≡ None
no_root = refl

no_size : size_value [] ≡ None
no_size = refl

some_line : (x : ℕ) (line : List ℕ) → (length (x ∷ line) == 0) ≡ false
some_line x line = ne_eqb (length (x ∷ line)) 0 (omega arith)

size_some : (line : List ℕ) (n : ℕ) → size_value line ≡ Some n → (length line == 0) ≡ false
size_some [] n is = absurd (no_value (sym no_size ∙ is))
size_some (x ∷ line) n is = some_line x line

root_some : (line root : List ℕ) → bytes_value 32 line ≡ Some root → (length line == 0) ≡ false
root_some [] root is = absurd (no_value (sym no_root ∙ is))
root_some (x ∷ line) root is = some_line x line

left_bytes : (xs ys : List ℕ) → IsBytes (xs ++ ys) → IsBytes xs
left_bytes [] ys h i = omega arith
left_bytes (x ∷ xs) ys h zero = h 0
left_bytes (x ∷ xs) ys h (suc i) = left_bytes xs ys (λ k. h (suc k)) i

right_bytes : (xs ys : List ℕ) → IsBytes (xs ++ ys) → IsBytes ys
right_bytes [] ys h i = h i
right_bytes (x ∷ xs) ys h i = right_bytes xs ys (λ k. h (suc k)) i

tail_bytes : (x : ℕ) (xs : List ℕ) → IsBytes (x ∷ xs) → IsBytes xs
tail_bytes x xs h i = h (suc i)

-- a text goes on from a front
pub record Extends (text front : List ℕ) : Type 0 where
  pub extension : List ℕ
  pub is : text ≡ front ++ extension

text_at : (ps : List (List ℕ)) (size : ℕ) (root : List ℕ) → (length (field_at ps 0) == 0) ≡ false → size_value (field_at ps 1) ≡ Some size → bytes_value 32 (field_at ps 2) ≡ Some root
    → are_signatures (after_text ps) ≡ true → IsBytes (join_with_byte 10 ps) → Extends (take (text_len ps) (join_with_byte 10 ps)) (checkpoint_text (field_at ps 0) size root)
text_at [] size root some is_size is_root signed bytes = absurd (no_value (sym no_root ∙ is_root))
text_at (a ∷ []) size root some is_size is_root signed bytes = absurd (no_value (sym no_root ∙ is_root))
text_at (a ∷ b ∷ []) size root some is_size is_root signed bytes = absurd (no_value (sym no_root ∙ is_root))
text_at (a ∷ b ∷ c ∷ []) size root some is_size is_root signed bytes =
    let none = after_on a (b ∷ c ∷ []) some ∙ after_on b (c ∷ []) (size_some b size is_size) ∙ after_last c in
    absurd (true≢false (sym signed ∙ ap are_signatures none ∙ no_signatures))
text_at (a ∷ b ∷ c ∷ d ∷ later) size root some is_size is_root signed bytes =
    let rest = join_with_byte 10 (d ∷ later) in
    let third : IsBytes (c ++ 10 ∷ rest) = tail_bytes 10 (c ++ 10 ∷ rest) (right_bytes b (10 ∷ (c ++ 10 ∷ rest)) (tail_bytes 10 (b ++ 10 ∷ (c ++ 10 ∷ rest)) (right_bytes a (10 ∷ (b ++ 10 ∷ (c ++ 10 ∷ rest))) bytes))) in
    let extension : List ℕ = take (text_len (d ∷ later)) rest in
    let lines = text_of_line a b (c ∷ d ∷ later) some
    ∙ ap (λ x. a ++ 10 ∷ x) (text_of_line b c (d ∷ later) (size_some b size is_size)
    ∙ ap (λ x. b ++ 10 ∷ x) (text_of_line c d later (root_some c root is_root))) in
    let b_is : b ≡ decimal size = size_is_decimal b size is_size in
    let c_is : c ≡ base64_of root = bytes_are_base64 c 32 root (left_bytes c (10 ∷ rest) third) is_root in
    record {
      extension = extension;
      is = lines ∙ ap (λ x. a ++ 10 ∷ (x ++ 10 ∷ (c ++ 10 ∷ extension))) b_is
          ∙ ap (λ x. a ++ 10 ∷ (decimal size ++ 10 ∷ (x ++ 10 ∷ extension))) c_is ∙ sym (spread a size root extension);
    }

pub text_extends : (bytes : List ℕ) (size : ℕ) (root : List ℕ) → (length (line_at bytes 0) == 0) ≡ false → read_size bytes ≡ Some size → read_root bytes ≡ Some root
    → are_signatures (after_text (parts bytes)) ≡ true → IsBytes bytes → Extends (read_text bytes) (checkpoint_text (line_at bytes 0) size root)
text_extends bytes size root some is_size is_root signed are =
    subst (λ x. Extends (take (text_len (parts bytes)) x) (checkpoint_text (line_at bytes 0) size root)) (joined_parts bytes)
    (text_at (parts bytes) size root some is_size is_root signed (subst IsBytes (sym (joined_parts bytes)) are))
