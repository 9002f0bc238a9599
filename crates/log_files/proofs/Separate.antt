-- Pieces whose names are two.
use Rattle.std.proofs.Common.{◌≡◌, ◌∙◌, ◌<◌, ◌≤◌, ◌+◌, sym, ap, ℕ, List, Some, None, inl, inr, arith, length, slice_get, true, false, get_or}
use Rattle.std.proofs.lemmas.Bool.{cases_lt}
use Rattle.std.proofs.lemmas.Option.{slice_get-get_or, slice_get_past}
use Rattle.std.proofs.lemmas.Slice.Eq.{bytes_eq-Decides}
use Rattle.std.specs.Str.{bytes_eq}
use Rattle.log_files.specs.Publishing.{IsSeparate}
use Rattle.log_files.specs.declared.publishing.Piece.{Piece}

-- the first so many pieces have two names each
abbrev pub FirstSeparate : List Piece → ℕ → Type 0
FirstSeparate ps n = (j : ℕ) (p : Piece) → j < n → slice_get ps j ≡ Some p → IsSeparate p

pub one_more : (ps : List Piece) (i : ℕ) (d : Piece) → i < length ps
    → bytes_eq (get_or ps i d).part.now (get_or ps i d).path.now ≡ false → FirstSeparate ps i
    → FirstSeparate ps (i + 1)
one_more ps i d inside differ before j p lt is = elim (cases_lt j i) [
  | inl below ↦ before j p below is
  | inr past ↦
      let at : j ≡ i = omega (arith, lt, past) in
      let here : Some (get_or ps i d) ≡ Some p
      = sym (slice_get-get_or ps i d inside) ∙ ap (slice_get ps) (sym at) ∙ is in
      let piece : get_or ps i d ≡ p = cc here in
      let no : bytes_eq p.part.now p.path.now ≡ false
      = ap (λ (x : Piece). bytes_eq x.part.now x.path.now) (sym piece) ∙ differ in
      λ same. let yes : true ≡ false = sym ((bytes_eq-Decides p.part.now p.path.now).1 same) ∙ no in
      cc yes
]

pub all_of : (ps : List Piece) (n : ℕ) → length ps ≤ n → FirstSeparate ps n
    → (i : ℕ) (p : Piece) → slice_get ps i ≡ Some p → IsSeparate p
all_of ps n few first i p is = elim (cases_lt i n) [
  | inl lt ↦ first i p lt is
  | inr past ↦
      let no : Some p ≡ None = sym is ∙ slice_get_past ps i (omega (arith, few, past)) in
      absurd (cc no)
]

-- a piece whose two names are one
pub not_separate : (ps : List Piece) (i : ℕ) (d : Piece) → i < length ps
    → bytes_eq (get_or ps i d).part.now (get_or ps i d).path.now ≡ true
    → ((j : ℕ) (p : Piece) → slice_get ps j ≡ Some p → IsSeparate p) → ⊥
not_separate ps i d inside same all =
    all i (get_or ps i d) (slice_get-get_or ps i d inside)
    ((bytes_eq-Decides (get_or ps i d).part.now (get_or ps i d).path.now).0 same)
