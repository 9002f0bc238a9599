-- Evidence is read back from its words.
use Rattle.std.proofs.Common.{◌≡◌, ℕ, suc, ◌+◌, ◌-◌, ◌&&◌, ◌^◌, ◌<◌, ◌≤◌, List, [], ◌∷◌, ◌++◌, length, true, false, Bool, not, Some, nat_le, filter, refl, ◌∙◌, ap, arith, append_assoc, length-append}
use Rattle.std.specs.Prelude.{◌==◌, codes, decimal, slice_index}
use Rattle.std.specs.List.{AllByRecursion, slice_split}
use Rattle.std.proofs.lemmas.Fmt.{decimal_nonempty}
use Rattle.std.proofs.lemmas.Bool.{and_parts, leb-true}
use Rattle.std.proofs.lemmas.Bool.Decides.{nat_tests}
use Rattle.std.proofs.lemmas.List.Elements.{All-from_recursion}
use Rattle.std.proofs.lemmas.List.Splits.{slice_split_at, slice_split_none}
use Rattle.line_serve.proofs.NumbersBack.{AreDigits, decimal_digits, number_back}
use Rattle.line_serve.specs.Fields.{fields, space}
use Rattle.slh_jobs.specs.EvidenceNumbers.{HasNumbers}
use Rattle.slh_jobs.specs.EvidenceWords.{evidence_in, evidence_text, spaced}
use Rattle.slh_audit.specs.declared.evidence.Evidence.{Evidence}
use Rattle.slh_audit.specs.declared.evidence.Evidence.TheVariants.{ForsNode, ForsRoots, ChainStep, Leaf, TreeNode, Early}

-- words: bytes that are no blanks, the least of which is the dash
abbrev all_visible : List ℕ → Bool
all_visible [] = true
all_visible (c ∷ cs) = nat_le 45 c && all_visible cs

record IsWord (word : List ℕ) : Type 0 where
  some : 1 ≤ length word
  visible : AllByRecursion (λ c. 45 ≤ c) word

digits_visible : (ds : List ℕ) → AreDigits ds → AllByRecursion (λ c. 45 ≤ c) ds
digits_visible [] are = tt
digits_visible (c ∷ cs) are = (omega (arith, are.0.0), digits_visible cs are.1)

number_word : (n : ℕ) → n < 2 ^ 32 → IsWord (decimal n)
number_word n small = record { some = decimal_nonempty n (omega arith); visible = digits_visible (decimal n) (decimal_digits n (omega arith)) }

no_space : (c : ℕ) → 45 ≤ c → (c == space) ≡ false
no_space c high = grind (arith, nat_tests)

unspaced : (cs : List ℕ) → AllByRecursion (λ c. 45 ≤ c) cs → AllByRecursion (λ c. (c == space) ≡ false) cs
unspaced [] visible = tt
unspaced (c ∷ cs) visible = (no_space c visible.0, unspaced cs visible.1)

-- a word, and more behind spaces
abbrev line_of : List ℕ → List (List ℕ) → List ℕ
line_of word [] = word
line_of word (next ∷ later) = word ++ space ∷ line_of next later

split_line : (word : List ℕ) (later : List (List ℕ)) → IsWord word → AllByRecursion IsWord later → slice_split (λ c. c == space) (line_of word later) ≡ word ∷ later
split_line word [] is are = slice_split_none (λ c. c == space) word (All-from_recursion _ word (unspaced word is.visible))
split_line word (next ∷ later) is are =
    slice_split_at (λ c. c == space) word space (line_of next later) (All-from_recursion _ word (unspaced word is.visible)) refl
    ∙ ap (λ parts. word ∷ parts) (split_line next later are.0 are.1)

not_none : (n : ℕ) → (suc n == 0) ≡ false
not_none n = grind (arith, nat_tests)

not_empty : (word : List ℕ) → IsWord word → not (length word == 0) ≡ true
not_empty [] is = absurd (omega (arith, is.some))
not_empty (c ∷ cs) is = ap not (not_none (length cs))

all_kept : (words : List (List ℕ)) → AllByRecursion IsWord words → filter (λ part. not (length part == 0)) words ≡ words
all_kept [] are = refl
all_kept (word ∷ words) are = rw (not_empty word are.0, all_kept words are.1) refl

-- no carriage return stands at the end
last_of : (xs ys : List ℕ) → 1 ≤ length ys → slice_index (xs ++ ys) (length (xs ++ ys) - 1) ≡ slice_index ys (length ys - 1)
last_of [] ys some = refl
last_of (x ∷ xs) ys some =
    let size : length (xs ++ ys) ≡ length xs + length ys = length-append xs ys in
    let place : suc (length (xs ++ ys)) - 1 ≡ suc (length (xs ++ ys) - 1) = omega arith in
    ap (slice_index (x ∷ (xs ++ ys))) place ∙ last_of xs ys some

visible_last : (word : List ℕ) → AllByRecursion (λ c. 45 ≤ c) word → 1 ≤ length word → 45 ≤ slice_index word (length word - 1)
visible_last [] visible some = absurd (omega (arith, some))
visible_last (c ∷ []) visible some = visible.0
visible_last (c ∷ d ∷ cs) visible some =
    let place : length (c ∷ d ∷ cs) - 1 ≡ suc (length (d ∷ cs) - 1) = omega arith in
    rw place (visible_last (d ∷ cs) visible.1 (omega arith))

line_some : (word : List ℕ) (later : List (List ℕ)) → IsWord word → 1 ≤ length (line_of word later)
line_some word [] is = is.some
line_some word (next ∷ later) is = omega (arith, is.some, length-append word (space ∷ line_of next later))

line_last : (word : List ℕ) (later : List (List ℕ)) → IsWord word → AllByRecursion IsWord later → 45 ≤ slice_index (line_of word later) (length (line_of word later) - 1)
line_last word [] is are = visible_last word is.visible is.some
line_last word (next ∷ later) is are =
    let line = line_of next later in
    let some : 1 ≤ length line = line_some next later are.0 in
    let back : slice_index (space ∷ line) (length (space ∷ line) - 1) ≡ slice_index line (length line - 1) = last_of (space ∷ []) line some in
    rw (last_of word (space ∷ line) (omega arith), back) (line_last next later are.0 are.1)

no_return : (c : ℕ) → 45 ≤ c → (c == 13) ≡ false
no_return c high = grind (arith, nat_tests)

fields_are : (word : List ℕ) (later : List (List ℕ)) → IsWord word → AllByRecursion IsWord later → fields (line_of word later) ≡ word ∷ later
fields_are word later is are =
    rw (no_return _ (line_last word later is are), split_line word later is are) (all_kept (word ∷ later) (is, are))

-- the kinds
each_visible : (cs : List ℕ) → all_visible cs ≡ true → AllByRecursion (λ c. 45 ≤ c) cs
each_visible [] visible = tt
each_visible (c ∷ cs) visible = let both = and_parts _ _ visible in (leb-true _ _ both.0, each_visible cs both.1)

kind : (word : List ℕ) → all_visible word ≡ true → 1 ≤ length word → IsWord word
kind word visible some = record { some = some; visible = each_visible word visible }

pub evidence_back : (evidence : Evidence) → HasNumbers evidence → evidence_in (fields (evidence_text evidence)) ≡ Some evidence
evidence_back (ForsNode i z) small =
    let word = codes "fors-node" in
    ap (λ line. evidence_in (fields line)) (append_assoc word (spaced i) (spaced z))
    ∙ ap evidence_in (fields_are word (decimal i ∷ decimal z ∷ []) (kind word refl (omega arith)) (number_word i small.0, (number_word z small.1, tt)))
    ∙ rw (number_back i small.0, number_back z small.1) refl
evidence_back ForsRoots small =
    let word = codes "fors-roots" in
    ap evidence_in (fields_are word [] (kind word refl (omega arith)) tt)
evidence_back (ChainStep j c q) small =
    let word = codes "chain-step" in
    ap (λ line. evidence_in (fields line)) (append_assoc (word ++ spaced j) (spaced c) (spaced q) ∙ append_assoc word (spaced j) (spaced c ++ spaced q))
    ∙ ap evidence_in (fields_are word (decimal j ∷ decimal c ∷ decimal q ∷ []) (kind word refl (omega arith)) (number_word j small.0, (number_word c small.1, (number_word q small.2, tt))))
    ∙ rw (number_back j small.0, number_back c small.1, number_back q small.2) refl
evidence_back (Leaf j) small =
    let word = codes "leaf" in
    ap evidence_in (fields_are word (decimal j ∷ []) (kind word refl (omega arith)) (number_word j small, tt))
    ∙ rw (number_back j small) refl
evidence_back (TreeNode j z) small =
    let word = codes "tree-node" in
    ap (λ line. evidence_in (fields line)) (append_assoc word (spaced j) (spaced z))
    ∙ ap evidence_in (fields_are word (decimal j ∷ decimal z ∷ []) (kind word refl (omega arith)) (number_word j small.0, (number_word z small.1, tt)))
    ∙ rw (number_back j small.0, number_back z small.1) refl
evidence_back (Early j c) small =
    let word = codes "early" in
    ap (λ line. evidence_in (fields line)) (append_assoc word (spaced j) (spaced c))
    ∙ ap evidence_in (fields_are word (decimal j ∷ decimal c ∷ []) (kind word refl (omega arith)) (number_word j small.0, (number_word c small.1, tt)))
    ∙ rw (number_back j small.0, number_back c small.1) refl
