-- What publishing keeps.
use Rattle.std.proofs.Common.{◌≡◌, ◌⊎◌, ◌∙◌, refl, ℕ, zero, suc, List, [], ◌∷◌, Option, Some, None, sym, subst, inl, inr, slice_get}
use Rattle.std.specs.List.{AllByRecursion}
use Rattle.whole_files.specs.Files.{Files, Node}
use Rattle.whole_files.specs.Whole.{HasWhole, mode_of}
use Rattle.log_files.specs.Publishing.{AreApart, AreWhole, FirstWritten, HaveNames, IsApart, IsPublishing, IsWhole, IsWritingNext, IsWritingPiece}
use Rattle.log_files.specs.declared.publishing.Piece.{Piece}

first_keeps : (m : Files) (ps : List Piece) (i : ℕ) (a : Files) (q : List ℕ) → FirstWritten m ps i a
    → AllByRecursion (IsApart q) ps → a q ≡ m q
first_keeps m ps zero a q first apart = first q
first_keeps m [] (suc i) a q first apart = absurd first
first_keeps m (p ∷ ps) (suc i) a q first apart =
    first_keeps first.0 ps i a q first.2 apart.1 ∙ first.1.others q apart.0.0

next_keeps : (a : Files) (ps : List Piece) (i : ℕ) (head : Piece) (n : Files) (q : List ℕ)
    → IsWritingNext a (slice_get ps i) head n → AllByRecursion (IsApart q) (head ∷ ps) → n q ≡ a q
next_keeps a [] i head n q writing apart = writing.others q apart.0.0 apart.0.1
next_keeps a (p ∷ ps) zero head n q writing apart = writing.others q apart.1.0.0 apart.1.0.1
next_keeps a (p ∷ ps) (suc i) head n q writing apart =
    next_keeps a ps i head n q writing (apart.0, apart.1.1)

pub others_kept : (m n : Files) (ps : List Piece) (head : Piece) → IsPublishing m ps head n
    → (q : List ℕ) → AllByRecursion (IsApart q) (head ∷ ps) → n q ≡ m q
others_kept m n ps head publishing q apart =
    next_keeps publishing.1 ps publishing.0 head n q publishing.3 apart
    ∙ first_keeps m ps publishing.0 publishing.1 q publishing.2 apart.1

-- what was written whole stays so while others are written
pub all_whole : (m : Files) (ps : List Piece) (i : ℕ) (a : Files) → FirstWritten m ps i a → slice_get ps i ≡ None
    → AreApart ps → AreWhole ps a
all_whole m [] i a first none apart = tt
all_whole m (p ∷ ps) zero a first none apart = cc none
all_whole m (p ∷ ps) (suc i) a first none apart =
    let kept : a p.path.now ≡ first.0 p.path.now = first_keeps first.0 ps i a p.path.now first.2 apart.0 in (
      (_, subst (λ (o : Option Node). HasWhole (mode_of (m p.path.now)) p.bytes.now o) (sym kept) first.1.whole),
      all_whole first.0 ps i a first.2 none apart.1,
    )

-- also while the head is written
pub still_whole : (a n : Files) (ps : List Piece) (head : Piece) → IsWritingPiece a head n
    → AllByRecursion (λ p. IsApart p.path.now head) ps → AreWhole ps a → AreWhole ps n
still_whole a n [] head writing apart whole = tt
still_whole a n (p ∷ ps) head writing apart whole =
    let kept : n p.path.now ≡ a p.path.now = writing.others p.path.now apart.0.0 apart.0.1 in (
      (whole.0.0, subst (λ (o : Option Node). HasWhole whole.0.0 p.bytes.now o) (sym kept) whole.0.1),
      still_whole a n ps head writing apart.1 whole.1,
    )

-- the head is written after all pieces, and kept before
head_after : (m a n : Files) (ps : List Piece) (i : ℕ) (head : Piece) (next : Option Piece) → HaveNames ps head
    → FirstWritten m ps i a → slice_get ps i ≡ next → IsWritingNext a next head n
    → ((p : Piece) → next ≡ Some p → IsApart head.path.now p)
    → (n head.path.now ≡ m head.path.now) ⊎ (AreWhole ps n × IsWhole head.bytes.now (n head.path.now))
head_after m a n ps i head (Some p) names first is writing apart =
    let away = apart p refl in
    inl (writing.others head.path.now away.0 away.1 ∙ first_keeps m ps i a head.path.now first names.head_from_pieces)
head_after m a n ps i head None names first is writing apart = elim writing.at [
  | inl old ↦ inl (old ∙ first_keeps m ps i a head.path.now first names.head_from_pieces)
  | inr new ↦ inr (still_whole a n ps head writing names.pieces_from_head (all_whole m ps i a first is names.pieces), (_, new))
]

each_apart : (q : List ℕ) (ps : List Piece) (i : ℕ) (p : Piece) → AllByRecursion (IsApart q) ps → slice_get ps i ≡ Some p
    → IsApart q p
each_apart q [] i p apart is = cc is
each_apart q (x ∷ ps) zero p apart is =
    let same : x ≡ p = cc is in
    subst (λ (r : Piece). IsApart q r) same apart.0
each_apart q (x ∷ ps) (suc i) p apart is = each_apart q ps i p apart.1 is

pub head_last : (m n : Files) (ps : List Piece) (head : Piece) → HaveNames ps head → IsPublishing m ps head n
    → (n head.path.now ≡ m head.path.now) ⊎ (AreWhole ps n × IsWhole head.bytes.now (n head.path.now))
head_last m n ps head names publishing =
    head_after m publishing.1 n ps publishing.0 head _ names publishing.2 refl publishing.3
    (λ p is. each_apart head.path.now ps publishing.0 p names.head_from_pieces is)
