-- Evidence is read back from the words of its text: what stands between blanks there stands between
-- spaces.
use Rattle.std.proofs.Common.{◌≡◌, ℕ, suc, ◌-◌, ◌&&◌, ◌^◌, ◌<◌, ◌≤◌, List, [], ◌∷◌, ◌++◌, length, true, false, Bool, nat_le, refl, ◌∙◌, ap, arith, Some}
use Rattle.std.specs.Prelude.{◌==◌, ◌||◌, codes, decimal, slice_index}
use Rattle.std.specs.List.{AllByRecursion, slice_split}
use Rattle.std.proofs.lemmas.Bool.{and_parts, leb-true}
use Rattle.std.proofs.lemmas.Bool.Decides.{nat_tests}
use Rattle.line_serve.proofs.NumbersBack.{AreDigits, decimal_digits}
use Rattle.line_serve.specs.Fields.{fields, space}
use Rattle.slh_jobs.specs.EvidenceNumbers.{HasNumbers}
use Rattle.slh_jobs.specs.EvidenceWords.{evidence_in, evidence_text, spaced}
use Rattle.slh_jobs.proofs.EvidenceBack.{evidence_back}
use Rattle.slh_bytes.specs.Lines.{is_blank, words_of}
use Rattle.slh_audit.specs.declared.evidence.Evidence.{Evidence}
use Rattle.slh_audit.specs.declared.evidence.Evidence.TheVariants.{ForsNode, ForsRoots, ChainStep, Leaf, TreeNode, Early}

-- spaces, and bytes above them
abbrev ArePlain : List ℕ → Type 0
ArePlain = AllByRecursion (λ c. 32 ≤ c)

alone : (b : Bool) → (b || false || false || false) ≡ b
alone true = refl
alone false = refl

is_space : (c : ℕ) → 32 ≤ c → is_blank c ≡ (c == space)
is_space c plain =
    let tab : (c == 9) ≡ false = grind (arith, nat_tests) in
    let return : (c == 13) ≡ false = grind (arith, nat_tests) in
    let feed : (c == 10) ≡ false = grind (arith, nat_tests) in
    rw (tab, return, feed) (alone (c == 32))

same_parts : (text : List ℕ) → ArePlain text → slice_split is_blank text ≡ slice_split (λ c. c == space) text
same_parts [] plain = refl
same_parts (c ∷ cs) plain = rw (is_space c plain.0, same_parts cs plain.1) refl

no_return : (c : ℕ) → 32 ≤ c → (c == 13) ≡ false
no_return c plain = grind (arith, nat_tests)

last_plain : (text : List ℕ) → ArePlain text → (slice_index text (length text - 1) == 13) ≡ false
last_plain [] plain = refl
last_plain (c ∷ []) plain = no_return c plain.0
last_plain (c ∷ d ∷ cs) plain =
    let place : length (c ∷ d ∷ cs) - 1 ≡ suc (length (d ∷ cs) - 1) = omega arith in
    rw place (last_plain (d ∷ cs) plain.1)

same_words : (text : List ℕ) → ArePlain text → words_of text ≡ fields text
same_words text plain = rw (last_plain text plain, same_parts text plain) refl

joined : (front back : List ℕ) → ArePlain front → ArePlain back → ArePlain (front ++ back)
joined [] back front_is back_is = back_is
joined (c ∷ front) back front_is back_is = (front_is.0, joined front back front_is.1 back_is)

digits : (ds : List ℕ) → AreDigits ds → ArePlain ds
digits [] are = tt
digits (c ∷ cs) are = (omega (arith, are.0.0), digits cs are.1)

number : (n : ℕ) → n < 2 ^ 32 → ArePlain (spaced n)
number n small = (omega arith, digits (decimal n) (decimal_digits n (omega arith)))

abbrev all_plain : List ℕ → Bool
all_plain [] = true
all_plain (c ∷ cs) = nat_le 32 c && all_plain cs

each_plain : (cs : List ℕ) → all_plain cs ≡ true → ArePlain cs
each_plain [] all = tt
each_plain (c ∷ cs) all = let both = and_parts _ _ all in (leb-true _ _ both.0, each_plain cs both.1)

text_plain : (evidence : Evidence) → HasNumbers evidence → ArePlain (evidence_text evidence)
text_plain (ForsNode i z) small =
    joined (codes "fors-node" ++ spaced i) (spaced z) (joined (codes "fors-node") (spaced i) (each_plain (codes "fors-node") refl) (number i small.0)) (number z small.1)
text_plain ForsRoots small = each_plain (codes "fors-roots") refl
text_plain (ChainStep j c q) small =
    joined (codes "chain-step" ++ spaced j ++ spaced c) (spaced q)
    (joined (codes "chain-step" ++ spaced j) (spaced c) (joined (codes "chain-step") (spaced j) (each_plain (codes "chain-step") refl) (number j small.0)) (number c small.1))
    (number q small.2)
text_plain (Leaf j) small = joined (codes "leaf") (spaced j) (each_plain (codes "leaf") refl) (number j small)
text_plain (TreeNode j z) small =
    joined (codes "tree-node" ++ spaced j) (spaced z) (joined (codes "tree-node") (spaced j) (each_plain (codes "tree-node") refl) (number j small.0)) (number z small.1)
text_plain (Early j c) small =
    joined (codes "early" ++ spaced j) (spaced c) (joined (codes "early") (spaced j) (each_plain (codes "early") refl) (number j small.0)) (number c small.1)

pub words_back : (evidence : Evidence) → HasNumbers evidence → evidence_in (words_of (evidence_text evidence)) ≡ Some evidence
words_back evidence small = ap evidence_in (same_words (evidence_text evidence) (text_plain evidence small)) ∙ evidence_back evidence small
