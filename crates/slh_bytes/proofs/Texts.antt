-- Texts of several items, one after the other: the bytes of a string, the paths of a ring, the links
-- of a chain.
use Rattle.std.proofs.Common.{◌≡◌, ℕ, ◌+◌, ◌<◌, List, [], ◌∷◌, ◌++◌, length, take, get_or, map, Some, sym, ◌∙◌, ap, append_assoc, append-nil, arith}
use Rattle.std.specs.Prelude.{codes, slice_get}
use Rattle.std.specs.List.{flat_map}
use Rattle.std.proofs.lemmas.Grind.{common_steps, flat_map-append}
use Rattle.std.proofs.lemmas.List.{take_more}
use Rattle.std.proofs.lemmas.Option.{get_or_from_slice_get, slice_get_within}
use Rattle.slh_ring.specs.PathTexts.{path_text}
use Rattle.slh_chain.specs.Parts.{LinkParts}
use Rattle.slh_bytes.specs.Chains.{parts_of}
use Rattle.slh_bytes.specs.Rings.{paths_text}
use Rattle.slh_bytes.specs.declared.chains.LinkText.{LinkText}

pub text_more : {X : Type 0} (f : X → List ℕ) (items : List X) (i : ℕ) (item : X) → i < length items
    → flat_map f (take (i + 1) items) ≡ flat_map f (take i items) ++ f (get_or items i item)
text_more f items i item below =
    ap (flat_map f) (take_more items i item below) ∙ flat_map-append f (take i items) (get_or items i item ∷ [])
    ∙ ap (λ l. flat_map f (take i items) ++ l) (append-nil (f (get_or items i item)))

-- the line of one path more
pub line_more : (text shown after : List ℕ) (ring : List (List ℕ)) (i : ℕ) (path : List ℕ) → slice_get ring i ≡ Some path
    → text ≡ paths_text (take i ring) → shown ≡ text ++ path_text path → after ≡ shown ++ codes "\n"
    → after ≡ paths_text (take (i + 1) ring)
line_more text shown after ring i path is is_text is_shown is_after =
    let f : List ℕ → List ℕ = λ path. path_text path ++ codes "\n" in
    is_after ∙ ap (λ l. l ++ codes "\n") (is_shown ∙ ap (λ l. l ++ path_text path) is_text)
    ∙ append_assoc (flat_map f (take i ring)) (path_text path) (codes "\n")
    ∙ ap (λ p. flat_map f (take i ring) ++ f p) (sym (get_or_from_slice_get ring i path path is))
    ∙ sym (text_more f ring i path (slice_get_within ring i path is))

-- the text of one link more
pub link_more : (texts after : List LinkText) (text : LinkText) (parts : LinkParts) (left rest whole : List LinkParts)
    → map parts_of texts ++ left ≡ whole → left ≡ parts ∷ rest → parts_of text ≡ parts → after ≡ texts ++ text ∷ []
    → map parts_of after ++ rest ≡ whole
link_more texts after text parts left rest whole so_far next is pushed = rw (pushed, ← so_far, next, ← is) (grind (arith, common_steps))
