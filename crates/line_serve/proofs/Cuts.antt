-- How the parts of a stream go on as it grows.
use Rattle.std.proofs.Common.{◌≡◌, ℕ, true, false, List, [], ◌∷◌, ◌++◌, refl, sym, ◌∙◌, ap, subst, cond, append_assoc}
use Rattle.std.specs.Bool.{◌==◌}
use Rattle.std.specs.List.{onto_first}
use Rattle.std.proofs.lemmas.List.{append-nil}
use Rattle.std.proofs.lemmas.List.Splits.{slice_split_none}
use Rattle.line_serve.specs.Lines.{line_feed, parts, all_but_last, last_of, closed_lines, unfinished, HasNoLineFeed}

-- the last of the first parts goes on in the first of the others
abbrev joined : List (List ℕ) → List (List ℕ) → List (List ℕ)
joined [] qs = qs
joined (p ∷ []) [] = p ∷ []
joined (p ∷ []) (q ∷ qs) = (p ++ q) ∷ qs
joined (p ∷ o ∷ ps) qs = p ∷ joined (o ∷ ps) qs

-- there is a first part
record HasFirst (ps : List (List ℕ)) : Type 0 where
  first : List ℕ
  rest : List (List ℕ)
  is : ps ≡ first ∷ rest

has_first : (b : List ℕ) → HasFirst (parts b)
has_first [] = record { first = []; rest = []; is = refl }
has_first (x ∷ b) = elim (x == line_feed) as (λ t. HasFirst (cond t ([] ∷ parts b) (onto_first x (parts b)))) [
  | true ↦ record { first = []; rest = parts b; is = refl }
  | false ↦ let h = has_first b in record { first = x ∷ h.first; rest = h.rest; is = ap (onto_first x) h.is }
]

joined-onto_first : (x : ℕ) (ps qs : List (List ℕ)) → HasFirst ps → onto_first x (joined ps qs) ≡ joined (onto_first x ps) qs
joined-onto_first x ps qs h = subst (λ (l : List (List ℕ)). onto_first x (joined l qs) ≡ joined (onto_first x l) qs) (sym h.is) (at h.first h.rest qs)
  where
    at : (p : List ℕ) (ps qs : List (List ℕ)) → onto_first x (joined (p ∷ ps) qs) ≡ joined (onto_first x (p ∷ ps)) qs
    at p [] [] = refl
    at p [] (q ∷ qs) = refl
    at p (o ∷ ps) qs = refl

joined-cons : (p : List ℕ) (ps qs : List (List ℕ)) → HasFirst ps → p ∷ joined ps qs ≡ joined (p ∷ ps) qs
joined-cons p ps qs h = subst (λ (l : List (List ℕ)). p ∷ joined l qs ≡ joined (p ∷ l) qs) (sym h.is) refl

parts-append : (p q : List ℕ) → parts (p ++ q) ≡ joined (parts p) (parts q)
parts-append [] q = subst (λ (l : List (List ℕ)). l ≡ joined ([] ∷ []) l) (sym (has_first q).is) refl
parts-append (x ∷ p) q =
    elim (x == line_feed) as (λ t. cond t ([] ∷ parts (p ++ q)) (onto_first x (parts (p ++ q))) ≡ joined (cond t ([] ∷ parts p) (onto_first x (parts p))) (parts q)) [
      | true ↦ ap (λ (l : List (List ℕ)). [] ∷ l) (parts-append p q) ∙ joined-cons [] (parts p) (parts q) (has_first p)
      | false ↦ ap (onto_first x) (parts-append p q) ∙ joined-onto_first x (parts p) (parts q) (has_first p)
    ]

front_and_last : (p : List ℕ) (ps : List (List ℕ)) → p ∷ ps ≡ all_but_last (p ∷ ps) ++ last_of (p ∷ ps) ∷ []
front_and_last p [] = refl
front_and_last p (o ∷ ps) = ap (λ (l : List (List ℕ)). p ∷ l) (front_and_last o ps)

-- the parts are the lines that a line feed ended_lines, and then what stands after the last
parts_are : (b : List ℕ) → parts b ≡ closed_lines b ++ unfinished b ∷ []
parts_are b =
    let h = has_first b in subst (λ (l : List (List ℕ)). l ≡ all_but_last l ++ last_of l ∷ []) (sym h.is) (front_and_last h.first h.rest)

joined_at : (ls : List (List ℕ)) (u q : List ℕ) (qs : List (List ℕ)) → joined (ls ++ u ∷ []) (q ∷ qs) ≡ ls ++ (u ++ q) ∷ qs
joined_at [] u q qs = refl
joined_at (l ∷ []) u q qs = refl
joined_at (l ∷ m ∷ ls) u q qs = ap (λ (r : List (List ℕ)). l ∷ r) (joined_at (m ∷ ls) u q qs)

all_but_last-push : (ls : List (List ℕ)) (u : List ℕ) → all_but_last (ls ++ u ∷ []) ≡ ls
all_but_last-push [] u = refl
all_but_last-push (l ∷ []) u = refl
all_but_last-push (l ∷ m ∷ ls) u = ap (λ (r : List (List ℕ)). l ∷ r) (all_but_last-push (m ∷ ls) u)

last_of-push : (ls : List (List ℕ)) (u : List ℕ) → last_of (ls ++ u ∷ []) ≡ u
last_of-push [] u = refl
last_of-push (l ∷ []) u = refl
last_of-push (l ∷ m ∷ ls) u = last_of-push (m ∷ ls) u

-- the parts of a stream that goes on
goes_on : (p q first : List ℕ) (rest : List (List ℕ)) → parts q ≡ first ∷ rest → parts (p ++ q) ≡ closed_lines p ++ (unfinished p ++ first) ∷ rest
goes_on p q first rest is =
    parts-append p q ∙ ap (λ (l : List (List ℕ)). joined l (parts q)) (parts_are p) ∙ ap (λ (l : List (List ℕ)). joined (closed_lines p ++ unfinished p ∷ []) l) is
    ∙ joined_at (closed_lines p) (unfinished p) first rest

module _ (p q : List ℕ) (none : HasNoLineFeed q) where
  grown : parts (p ++ q) ≡ closed_lines p ++ (unfinished p ++ q) ∷ []
  grown = goes_on p q q [] (slice_split_none (λ x. x == line_feed) q none)

  pub closed_lines-grown : closed_lines (p ++ q) ≡ closed_lines p
  closed_lines-grown = ap all_but_last grown ∙ all_but_last-push (closed_lines p) (unfinished p ++ q)

  pub unfinished-grown : unfinished (p ++ q) ≡ unfinished p ++ q
  unfinished-grown = ap last_of grown ∙ last_of-push (closed_lines p) (unfinished p ++ q)

module _ (p : List ℕ) where
  fed : parts (p ++ line_feed ∷ []) ≡ (closed_lines p ++ unfinished p ∷ []) ++ [] ∷ []
  fed =
      goes_on p (line_feed ∷ []) [] ([] ∷ []) refl ∙ ap (λ (l : List ℕ). closed_lines p ++ l ∷ [] ∷ []) (append-nil (unfinished p))
      ∙ sym (append_assoc (closed_lines p) (unfinished p ∷ []) ([] ∷ []))

  -- a line feed ends what stood after the last
  pub closed_lines-fed : closed_lines (p ++ line_feed ∷ []) ≡ closed_lines p ++ unfinished p ∷ []
  closed_lines-fed = ap all_but_last fed ∙ all_but_last-push (closed_lines p ++ unfinished p ∷ []) []

  pub unfinished-fed : unfinished (p ++ line_feed ∷ []) ≡ []
  unfinished-fed = ap last_of fed ∙ last_of-push (closed_lines p ++ unfinished p ∷ []) []

all_but_last-append : (ls : List (List ℕ)) (x : List ℕ) (xs : List (List ℕ)) → all_but_last (ls ++ x ∷ xs) ≡ ls ++ all_but_last (x ∷ xs)
all_but_last-append [] x xs = refl
all_but_last-append (l ∷ []) x xs = refl
all_but_last-append (l ∷ m ∷ ls) x xs = ap (λ (r : List (List ℕ)). l ∷ r) (all_but_last-append (m ∷ ls) x xs)

-- the lines that more bytes close
pub record ClosesMore (p q : List ℕ) : Type 0 where
  pub more : List (List ℕ)
  pub is : closed_lines (p ++ q) ≡ closed_lines p ++ more

-- what is closed_lines stays closed_lines
pub closes_more : (p q : List ℕ) → ClosesMore p q
closes_more p q =
    let h = has_first q in
    record {
      more = all_but_last ((unfinished p ++ h.first) ∷ h.rest);
      is = ap all_but_last (goes_on p q h.first h.rest h.is) ∙ all_but_last-append (closed_lines p) (unfinished p ++ h.first) h.rest;
    }
