-- Bytes that are cut line by line.
use Rattle.std.proofs.Common.{◌≡◌, ◌≢◌, inl, inr, ℕ, zero, suc, ◌+◌, ◌-◌, ◌<◌, ◌≤◌, List, [], ◌∷◌, length, take, drop, refl, sym, ◌∙◌, ap, arith, Option, Some, None, true, false}
use Rattle.std.specs.Prelude.{◌==◌, ◌&&◌}
use Rattle.std.specs.List.{position, slice_split}
use Rattle.std.proofs.lemmas.Bool.{cases_Bool, ne_eqb, true≢false}
use Rattle.std.proofs.lemmas.Slice.Eq.{bytes_eq-Decides}
use Rattle.std.specs.Str.{bytes_eq}
use Rattle.std.proofs.lemmas.Bool.Decides.{Decides-eqb}
use Rattle.std.proofs.lemmas.List.Splits.{length-slice_split}
use Rattle.line_serve.specs.Lines.{line_feed, parts}
use Rattle.line_serve.proofs.Found.{split_found, split_none}
use Rattle.slh_log.specs.Reading.{after_text, are_signatures, begins_with, text_len}
use Rattle.slh_log.specs.Texts.{dash}

-- there is a last part
pub some_parts : (bytes : List ℕ) → (length (parts bytes) == 0) ≡ false
some_parts bytes = ne_eqb (length (parts bytes)) 0 (omega (arith, length-slice_split (λ x. x == line_feed) bytes))

-- ---- the text

pub text_ends : (line : List ℕ) (later : List (List ℕ)) → length line ≡ 0 → text_len (line ∷ later) ≡ 0
unfolding text_len
text_ends line later empty = rw empty refl

pub text_on : (line : List ℕ) (later : List (List ℕ)) → (length line == 0) ≡ false → text_len (line ∷ later) ≡ length line + 1 + text_len later
unfolding text_len
text_on line later some = rw some refl

pub after_ends : (line : List ℕ) (later : List (List ℕ)) → length line ≡ 0 → after_text (line ∷ later) ≡ later
unfolding after_text
after_ends line later empty = rw empty refl

pub after_on : (line : List ℕ) (later : List (List ℕ)) → (length line == 0) ≡ false → after_text (line ∷ later) ≡ after_text later
unfolding after_text
after_on line later some = rw some refl

-- a last part ends no text
pub after_last : (line : List ℕ) → after_text (line ∷ []) ≡ []
unfolding after_text
after_last line = elim (cases_Bool (length line == 0)) [
  | inl empty ↦ rw empty refl
  | inr some ↦ rw some refl
]

pub no_signatures : are_signatures [] ≡ false
unfolding are_signatures
no_signatures = refl

-- ---- lines of signatures

pub signatures_end : (line : List ℕ) → are_signatures (line ∷ []) ≡ (length line == 0)
unfolding are_signatures
signatures_end line = refl

pub signatures_on : (line : List ℕ) (later : List (List ℕ)) → (length later == 0) ≡ false → are_signatures (line ∷ later) ≡ (begins_with dash line && are_signatures later)
unfolding are_signatures
signatures_on line later some = rw some refl

-- the library compares the other way round
pub compared : (a b : List ℕ) → bytes_eq a b ≡ bytes_eq b a
compared a b = elim (cases_Bool (bytes_eq b a)) [
  | inl same ↦ (bytes_eq-Decides a b).1 (sym ((bytes_eq-Decides b a).0 same)) ∙ sym same
  | inr other ↦ elim (cases_Bool (bytes_eq a b)) [
    | inl same ↦ absurd (true≢false (sym ((bytes_eq-Decides b a).1 (sym ((bytes_eq-Decides a b).0 same))) ∙ other))
    | inr differ ↦ differ ∙ sym other
  ]
]
