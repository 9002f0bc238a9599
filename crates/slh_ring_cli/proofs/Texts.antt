-- Texts of items, one after the other.
use Rattle.std.proofs.Common.{◌≡◌, ℕ, ◌+◌, ◌<◌, List, [], ◌∷◌, ◌++◌, length, take, get_or, Some, sym, ◌∙◌, ap, append_assoc, append-nil}
use Rattle.std.specs.Prelude.{codes, slice_get}
use Rattle.std.specs.List.{flat_map}
use Rattle.std.proofs.lemmas.Grind.{flat_map-append}
use Rattle.std.proofs.lemmas.List.{take_more}
use Rattle.std.proofs.lemmas.Option.{get_or_from_slice_get, slice_get_within}
use Rattle.slh_ring.specs.PathTexts.{path_text}

pub text_more : {X : Type 0} (f : X → List ℕ) (items : List X) (i : ℕ) (item : X) → i < length items
    → flat_map f (take (i + 1) items) ≡ flat_map f (take i items) ++ f (get_or items i item)
text_more f items i item below =
    ap (flat_map f) (take_more items i item below) ∙ flat_map-append f (take i items) (get_or items i item ∷ [])
    ∙ ap (λ l. flat_map f (take i items) ++ l) (append-nil (f (get_or items i item)))

-- the text of one path more, after a space
pub path_more : (front text spaced after : List ℕ) (ring : List (List ℕ)) (i : ℕ) (path : List ℕ) → slice_get ring i ≡ Some path
    → text ≡ front ++ flat_map (λ path. codes " " ++ path_text path) (take i ring)
    → spaced ≡ text ++ codes " " → after ≡ spaced ++ path_text path
    → after ≡ front ++ flat_map (λ path. codes " " ++ path_text path) (take (i + 1) ring)
path_more front text spaced after ring i path is is_text is_spaced is_after =
    let f : List ℕ → List ℕ = λ path. codes " " ++ path_text path in
    is_after ∙ ap (λ l. l ++ path_text path) (is_spaced ∙ ap (λ l. l ++ codes " ") is_text)
    ∙ append_assoc (front ++ flat_map f (take i ring)) (codes " ") (path_text path)
    ∙ append_assoc front (flat_map f (take i ring)) (f path)
    ∙ ap (λ p. front ++ (flat_map f (take i ring) ++ f p)) (sym (get_or_from_slice_get ring i path path is))
    ∙ ap (λ l. front ++ l) (sym (text_more f ring i path (slice_get_within ring i path is)))
