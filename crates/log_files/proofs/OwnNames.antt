-- Files of a log below a folder have names of their own, also while they are written.
use Rattle.std.proofs.Common.{◌≡◌, ◌≢◌, ◌∙◌, ◌⊎◌, ◌+◌, ◌/◌, ◌%◌, ◌<◌, ◌≤◌, ℕ, Bool, true, false, List, [], ◌∷◌, ◌++◌, refl, sym, ap, subst, arith, append_assoc, codes, decimal, drop, length, get_or, reverse, map, inl, inr}
use Rattle.std.specs.Prelude.{◌==◌, if◌then◌else◌}
use Rattle.std.specs.List.{AllByRecursion, flat_map}
use Rattle.std.proofs.lemmas.Fmt.{decimal_is_IsNumeral, decimal_nonempty}
use Rattle.std.proofs.lemmas.List.{append_cancel_left, append-nil, reverse-append}
use Rattle.std.proofs.lemmas.Str.Parse.{digit_from_value}
use Rattle.std.specs.Str.Parse.{AllDigits}
use Rattle.log_tiles.specs.Names.{group_powers, group_text, index_text, width_text}
use Rattle.log_files.specs.Names.{AreBelow, AreSuch, Differ, IsName, below, names_of}
use Rattle.log_files.specs.Appending.{Named}
use Rattle.log_files.specs.Publishing.{AreApart, HaveNames, IsApart}
use Rattle.log_files.specs.declared.publishing.Piece.{Piece}
use Rattle.log_files.proofs.TileNames.{heads_differ}
use Rattle.whole_files.specs.Parts.{HasPartEnd}

-- the last byte, and the one before it
last : List ℕ → ℕ
last text = get_or (reverse text) 0 0

second_last : List ℕ → ℕ
second_last text = get_or (reverse text) 1 0

last-append : (front back : List ℕ) (c : ℕ) (rest : List ℕ) → reverse back ≡ c ∷ rest → last (front ++ back) ≡ c
unfolding last
last-append front back c rest is =
    ap (λ (l : List ℕ). get_or l 0 0) (reverse-append front back ∙ ap (λ (l : List ℕ). l ++ reverse front) is)

second_last-append : (front back : List ℕ) (c d : ℕ) (rest : List ℕ) → reverse back ≡ c ∷ d ∷ rest
    → second_last (front ++ back) ≡ d
unfolding second_last
second_last-append front back c d rest is =
    ap (λ (l : List ℕ). get_or l 1 0) (reverse-append front back ∙ ap (λ (l : List ℕ). l ++ reverse front) is)

-- parts end in `t`, behind an `r`, or in a line
part_last : (text : List ℕ) → HasPartEnd text → ((last text ≡ 116) × (second_last text ≡ 114)) ⊎ (last text ≡ 95)
part_last text (inl p) = inl (
  ap last p.1 ∙ last-append p.0 (codes ".part") 116 _ refl,
  ap second_last p.1 ∙ second_last-append p.0 (codes ".part") 116 114 _ refl,
)
part_last text (inr p) = inr (ap last p.1 ∙ last-append p.0 (codes ".part_") 95 _ refl)

-- ---- names end in a digit

record EndsInDigit (text : List ℕ) : Type 0 where
  pub digit : ℕ
  pub low : 48 ≤ digit
  pub high : digit ≤ 57
  pub front : List ℕ
  pub is : text ≡ front ++ digit ∷ []

behind : (front text : List ℕ) → EndsInDigit text → EndsInDigit (front ++ text)
behind front text e = record {
  digit = e.digit;
  low = e.low;
  high = e.high;
  front = front ++ e.front;
  is = ap (λ (t : List ℕ). front ++ t) e.is ∙ sym (append_assoc front e.front (e.digit ∷ []));
}

digits_end : (d : ℕ) (ds : List ℕ) → AllDigits 10 (d ∷ ds) → EndsInDigit (d ∷ ds)
digits_end d [] all = record {
  digit = d;
  low = (digit_from_value d all.0).0;
  high = (digit_from_value d all.0).1;
  front = [];
  is = refl;
}
digits_end d (c ∷ cs) all = behind (d ∷ []) (c ∷ cs) (digits_end c cs all.1)

some_digits : (ds : List ℕ) → AllDigits 10 ds → 0 < length ds → EndsInDigit ds
some_digits [] all some = absurd (omega (arith, some))
some_digits (d ∷ ds) all some = digits_end d ds all

width_ends : (i w : ℕ) (b : Bool) → w ≤ 256
    → EndsInDigit (index_text i ++ (if b then [] else codes ".p/" ++ decimal w))
width_ends i w true few = record {
  digit = 48 + i % 1000 % 10;
  low = omega arith;
  high = omega arith;
  front = flat_map (λ power. group_text (i / power)) group_powers ++ (48 + i % 1000 / 100) ∷ (48 + i % 1000 / 10 % 10) ∷ [];
  is = append-nil (index_text i)
      ∙ sym (append_assoc (flat_map (λ power. group_text (i / power)) group_powers) ((48 + i % 1000 / 100) ∷ (48 + i % 1000 / 10 % 10) ∷ []) ((48 + i % 1000 % 10) ∷ []));
}
width_ends i w false few =
    behind (index_text i) (codes ".p/" ++ decimal w)
    (behind (codes ".p/") (decimal w) (some_digits (decimal w) (decimal_is_IsNumeral w (omega (arith, few))).0.1 (decimal_nonempty w (omega (arith, few)))))

name_ends : (name : List ℕ) → IsName name → EndsInDigit name
name_ends name (inl b) =
    let text = behind (codes "tile/entries/") (index_text b.0 ++ width_text b.1) (width_ends b.0 b.1 (b.1 == 256) b.2) in
    subst EndsInDigit (sym (b.3 ∙ append_assoc (codes "tile/entries/") (index_text b.0) (width_text b.1))) text
name_ends name (inr t) =
    let front : List ℕ = codes "tile/" ++ decimal t.0 ++ codes "/" in
    let text = behind front (index_text t.1 ++ width_text t.2) (width_ends t.1 t.2 (t.2 == 256) t.4) in
    subst EndsInDigit (sym (t.5 ∙ append_assoc front (index_text t.1) (width_text t.2))) text

pub not_part : (folder name part : List ℕ) → IsName name → HasPartEnd part → below folder name ≢ part
not_part folder name part is ends same =
    let digit = behind folder (47 ∷ name) (behind (47 ∷ []) name (name_ends name is)) in
    let here : last (below folder name) ≡ digit.digit = ap last digit.is ∙ last-append digit.front (digit.digit ∷ []) digit.digit [] refl in
    let there : last part ≡ digit.digit = ap last (sym same) ∙ here in
    elim (part_last part ends) [
      | inl t ↦ absurd (omega (arith, there, t.0, digit.high))
      | inr line ↦ absurd (omega (arith, there, line, digit.high))
    ]

pub head_not_part : (folder part : List ℕ) → HasPartEnd part → below folder (codes "checkpoint") ≢ part
head_not_part folder part ends same =
    let first : last part ≡ 116 = ap last (sym same) ∙ last-append folder (47 ∷ codes "checkpoint") 116 _ refl in
    let second : second_last part ≡ 110 = ap second_last (sym same) ∙ second_last-append folder (47 ∷ codes "checkpoint") 116 110 _ refl in
    elim (part_last part ends) [
      | inl t ↦ absurd (omega (arith, second, t.1))
      | inr line ↦ absurd (omega (arith, first, line))
    ]

same_name : (folder a b : List ℕ) → below folder a ≡ below folder b → a ≡ b
same_name folder a b same = ap (drop 1) (append_cancel_left folder (47 ∷ a) (47 ∷ b) same)

not_head : (name : List ℕ) → IsName name → name ≢ codes "checkpoint"
not_head name (inl b) same = (heads_differ 0 b.0 b.1).1 (sym b.3 ∙ same)
not_head name (inr t) same = (heads_differ t.0 t.1 t.2).0 (sym t.5 ∙ same)

-- ---- pieces

-- what later pieces have is apart from a path
all_apart : (folder name q : List ℕ) → q ≡ below folder name → IsName name → (names : List (List ℕ)) (ps : List Piece)
    → map (λ p. p.path.now) ps ≡ map (below folder) names → AllByRecursion (λ other. name ≢ other) names
    → AllByRecursion (λ p. HasPartEnd p.part.now) ps → AllByRecursion (IsApart q) ps
all_apart folder name q here is [] [] paths differ parts = tt
all_apart folder name q here is [] (p ∷ ps) paths differ parts = absurd (cc paths)
all_apart folder name q here is (n ∷ ns) [] paths differ parts = absurd (cc paths)
all_apart folder name q here is (n ∷ ns) (p ∷ ps) paths differ parts =
    let first : p.path.now ≡ below folder n = cc paths in
    let later : map (λ p. p.path.now) ps ≡ map (below folder) ns = cc paths in (
      (λ same. differ.0 (same_name folder name n (sym here ∙ same ∙ first)), λ same. not_part folder name p.part.now is parts.0 (sym here ∙ same)),
      all_apart folder name q here is ns ps later differ.1 parts.1,
    )

pieces_apart : (folder : List ℕ) (names : List (List ℕ)) (ps : List Piece)
    → map (λ p. p.path.now) ps ≡ map (below folder) names → AllByRecursion IsName names → Differ names
    → AllByRecursion (λ p. HasPartEnd p.part.now) ps → AreApart ps
pieces_apart folder [] [] paths are differ parts = tt
pieces_apart folder [] (p ∷ ps) paths are differ parts = absurd (cc paths)
pieces_apart folder (n ∷ ns) [] paths are differ parts = absurd (cc paths)
pieces_apart folder (n ∷ ns) (p ∷ ps) paths are differ parts =
    let first : p.path.now ≡ below folder n = cc paths in
    let later : map (λ p. p.path.now) ps ≡ map (below folder) ns = cc paths in (
      all_apart folder n p.path.now first are.0 ns ps later differ.0 parts.1,
      pieces_apart folder ns ps later are.1 differ.1 parts.1,
    )

-- the head is apart from all pieces, and they from it
head_apart : (folder : List ℕ) (names : List (List ℕ)) (ps : List Piece) (head : Piece)
    → map (λ p. p.path.now) ps ≡ map (below folder) names → AllByRecursion IsName names
    → AllByRecursion (λ p. HasPartEnd p.part.now) ps → head.path.now ≡ below folder (codes "checkpoint")
    → HasPartEnd head.part.now
    → AllByRecursion (IsApart head.path.now) ps × AllByRecursion (λ p. IsApart p.path.now head) ps
head_apart folder [] [] head paths are parts is part = (tt, tt)
head_apart folder [] (p ∷ ps) head paths are parts is part = absurd (cc paths)
head_apart folder (n ∷ ns) [] head paths are parts is part = absurd (cc paths)
head_apart folder (n ∷ ns) (p ∷ ps) head paths are parts is part =
    let first : p.path.now ≡ below folder n = cc paths in
    let later : map (λ p. p.path.now) ps ≡ map (below folder) ns = cc paths in
    let rest = head_apart folder ns ps head later are.1 parts.1 is part in
    let other : head.path.now ≢ p.path.now = λ same. not_head n are.0 (same_name folder n (codes "checkpoint") (sym first ∙ sym same ∙ is)) in (
      ((other, λ same. head_not_part folder p.part.now parts.0 (sym is ∙ same)), rest.0),
      ((λ same. other (sym same), λ same. not_part folder n head.part.now are.0 part (sym first ∙ same)), rest.1),
    )

pub own_names : (folder : List ℕ) (files : List Named) (ps : List Piece) (head : Piece) → AreSuch IsName files
    → AreBelow folder files ps head → HaveNames ps head
own_names folder files ps head are at =
    let both = head_apart folder (names_of files) ps head at.paths are.such at.parts at.head_path at.head_part in
    record {
      pieces = pieces_apart folder (names_of files) ps at.paths are.such are.differ at.parts;
      head_from_pieces = both.0;
      pieces_from_head = both.1;
    }
