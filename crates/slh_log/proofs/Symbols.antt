-- Base64 into a slice of the length that is asked for.
use Rattle.std.proofs.Common.{◌≡◌, subst, ℕ, ◌+◌, ◌-◌, ◌*◌, ◌/◌, ◌%◌, ◌<◌, ◌≤◌, List, [], ◌++◌, length, drop, refl, sym, ◌∙◌, ap, arith, inl, inr, Option, Some, None, Result, Ok, Err, MatchResult, MatchOption, Bool, true, false}
use Rattle.std.specs.Prelude.{◌==◌}
use Rattle.std.specs.Result.{result_ok}
use Rattle.std.proofs.lemmas.Bool.{cases_Bool, cases_lt, le-ltb, lt-ltb, ne_eqb}
use Rattle.std.proofs.lemmas.Bool.Decides.{Decides-eqb}
use Rattle.std.proofs.lemmas.List.{append-nil, drop_all}
use Rattle.base64.specs.Decode.{bytes_fit, decode_outcome, groups_before_last, or_else, or_error}
use Rattle.base64.specs.Engines.{standard}
use Rattle.base64.specs.GeneralPurpose.{decode_of, decode_slice_of, decoded_bytes_of, encoded_size_of}
use Rattle.base64.specs.declared.decode.DecodeError.{DecodeError}
use Rattle.base64.specs.declared.decode.DecodeSliceError.{DecodeSliceError}
use Rattle.line_serve.specs.Fields.{for_some}
use Rattle.slh_log.specs.Reading.{bytes_value, some_if}

-- the value where there are so many
abbrev sized : ℕ → Result (List ℕ) DecodeError → Option (List ℕ)
sized n d = for_some (result_ok d) (λ b. some_if (length b == n) b)

-- what decoding into n bytes says of the value
abbrev pub Tells : ℕ → Result ℕ DecodeSliceError → Result (List ℕ) DecodeError → List ℕ → Type 0
Tells n r d bytes = MatchResult r (λ len. (d ≡ Ok bytes) × (len ≡ length bytes)) (λ _. sized n d ≡ None)

fits : (n : ℕ) (bytes : List ℕ) → Tells n (bytes_fit (length bytes) n) (Ok bytes) bytes
fits n bytes = elim (cases_lt n (length bytes)) [
  | inl less ↦ (let other : (length bytes == n) ≡ false = ne_eqb (length bytes) n (omega arith) in rw (lt-ltb n (length bytes) less, other) refl)
  | inr more ↦ rw (le-ltb n (length bytes) more) (refl, refl)
]

outcome : (lone rest : Option DecodeError) (n : ℕ) (bytes : List ℕ) → Tells n (or_error lone (or_error rest (bytes_fit (length bytes) n))) (decode_outcome (or_else lone rest) bytes) bytes
outcome (Some e) rest n bytes = refl
outcome None (Some e) n bytes = refl
outcome None None n bytes = fits n bytes

pub tells : (s : List ℕ) (n : ℕ) → length s ≡ encoded_size_of standard n → Tells n (decode_slice_of standard s n) (decode_of standard s) (decoded_bytes_of standard s)
tells s n size =
    let room : groups_before_last (length s) ≤ n / 3 = omega arith in
    rw (le-ltb (n / 3) (groups_before_last (length s)) room) (outcome _ _ n (decoded_bytes_of standard s))

-- the lengths of base64
pub size_is : (n : ℕ) → encoded_size_of standard n ≡ (n + 2) / 3 * 4
size_is n = omega arith

-- the length of a line decides first
value_is : (n : ℕ) (s : List ℕ) → length s ≡ encoded_size_of standard n → bytes_value n s ≡ sized n (decode_of standard s)
value_is n s size = rw ((Decides-eqb _ _).1 size) refl

-- where decoding says so many bytes
pub filled : (s : List ℕ) (old new : List ℕ) (r : Result ℕ DecodeSliceError) (len : ℕ) → length s ≡ encoded_size_of standard (length old)
    → r ≡ decode_slice_of standard s (length old) → r ≡ Ok len → length new ≡ length old
    → new ≡ decoded_bytes_of standard s ++ drop (length (decoded_bytes_of standard s)) old
    → MatchOption (bytes_value (length old) s) ((len == length new) ≡ false) (λ bytes. ((len == length new) ≡ true) × (new ≡ bytes))
filled s old new r len size is ok same written =
    let n = length old in
    let bytes = decoded_bytes_of standard s in
    let told : Tells n (Ok len) (decode_of standard s) bytes = subst (λ x. Tells n x (decode_of standard s) bytes) (sym is ∙ ok) (tells s n size) in
    let value : bytes_value n s ≡ some_if (length bytes == n) bytes = value_is n s size ∙ ap (sized n) told.0 in
    elim (cases_Bool (length bytes == n)) [
      | inl whole ↦ (let all : length bytes ≡ n = (Decides-eqb _ _).0 whole in
          let count : len ≡ length new = told.1 ∙ all ∙ sym same in
          let none : drop (length bytes) old ≡ [] = drop_all (length bytes) old (omega arith) in
          let new_is : new ≡ bytes = written ∙ ap (λ l. bytes ++ l) none ∙ append-nil bytes in
          rw (value, whole) ((Decides-eqb _ _).1 count, new_is))
      | inr part ↦ (let other : (len == length new) ≡ false = ap (λ k. k == length new) told.1 ∙ ap (λ k. length bytes == k) same ∙ part in
          rw (value, part) other)
    ]
