-- Two words that follow each other.
use Rattle.std.proofs.Common.{◌≡◌, ◌∙◌, ◌+◌, ◌<◌, ℕ, zero, suc, List, [], ◌∷◌, length, drop, refl, sym, ap, true, false, Bool, get_or}
use Rattle.std.specs.Prelude.{◌||◌}
use Rattle.std.specs.Borrow.{Bor}
use Rattle.std.proofs.lemmas.List.{drop_more, length-map}
use Rattle.std.proofs.lemmas.Option.{unwrap_or-slice_get}
use Rattle.line_serve.specs.Fields.{contents, field_at}
use Rattle.slh_bytes.specs.Lines.{has_line, is_line}
use Rattle.slh_bytes.specs.declared.key.Kind.{Kind}

first_of : (words : List (List ℕ)) (at : ℕ) → field_at (drop at words) 0 ≡ field_at words at
first_of words zero = refl
first_of [] (suc at) = refl
first_of (word ∷ words) (suc at) = first_of words at

-- the word at a place, and what stands behind it
from_here : (kind : Kind) (words : List (List ℕ)) (at : ℕ) → at < length words
    → has_line kind (drop at words)
    ≡ (is_line kind (field_at words at) (field_at words (at + 1)) || has_line kind (drop (at + 1) words))
from_here kind words at within =
    let rest = has_line kind (drop (at + 1) words) in
    ap (has_line kind) (drop_more words at [] within)
    ∙ ap (λ (w : List ℕ). is_line kind (get_or words at []) w || rest) (first_of words (at + 1))
    ∙ ap (λ (w : List ℕ). is_line kind w (field_at words (at + 1)) || rest) (sym (unwrap_or-slice_get words at []))

pub found : (kind : Kind) (words : List (List ℕ)) (at : ℕ) → at < length words
    → is_line kind (field_at words at) (field_at words (at + 1)) ≡ true
    → has_line kind words ≡ has_line kind (drop at words) → true ≡ has_line kind words
found kind words at within is before =
    sym (before ∙ from_here kind words at within ∙ ap (λ (b : Bool). b || has_line kind (drop (at + 1) words)) is)

pub passed : (kind : Kind) (words : List (List ℕ)) (at : ℕ) → at < length words
    → is_line kind (field_at words at) (field_at words (at + 1)) ≡ false
    → has_line kind words ≡ has_line kind (drop at words)
    → has_line kind words ≡ has_line kind (drop (at + 1) words)
passed kind words at within is before =
    before ∙ from_here kind words at within ∙ ap (λ (b : Bool). b || has_line kind (drop (at + 1) words)) is

pub lent_count : (words : List (Bor (List ℕ))) → length (contents words) ≡ length words
lent_count words = length-map words (λ slice. slice.now)

pub same_line : (kind : Kind) (words : List (List ℕ)) (at : ℕ) (name digits : List ℕ) (is : Bool)
    → name ≡ field_at words at → digits ≡ field_at words (at + 1) → is_line kind name digits ≡ is
    → is_line kind (field_at words at) (field_at words (at + 1)) ≡ is
same_line kind words at name digits is here next same =
    ap (λ (w : List ℕ). is_line kind w (field_at words (at + 1))) (sym here) ∙ ap (is_line kind name) (sym next) ∙ same
