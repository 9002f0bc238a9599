-- Going over a list: what is taken, and what is left.
use Rattle.std.proofs.Common.{◌≡◌, ℕ, suc, ◌+◌, ◌<◌, List, [], ◌∷◌, ◌++◌, Global, Option, Some, None, length, get_or, drop, map, option_map, refl, sym, ap, ◌∙◌, add-one, append_assoc}
use Rattle.std.proofs.lemmas.List.{map-append}
use Rattle.std.proofs.Math.Seq.{drop-cons}
use Rattle.json.specs.Json.{Items, Json, item}
use Rattle.json.specs.Token.{Token}
use Rattle.json.specs.Tree.{items_tokens, json_tokens}
use Rattle.json.specs.Value.{items_view, value_view}
use Rattle.json.specs.declared.value.Value.{Value}
use Rattle.dsse.specs.Reading.{signature_in, signatures_of}
use Rattle.dsse.specs.Said.{Signed, said_by}
use Rattle.dsse.specs.Writing.{signature_json, signatures_json}
use Rattle.dsse.specs.declared.envelope.Signature.{Signature}

dropped : {A : Type 0} (l : List A) (i : ℕ) (x : A) → i < length l → x ≡ get_or l i x → drop i l ≡ x ∷ drop (i + 1) l
dropped l i x low is = rw add-one (drop-cons l i x low ∙ ap (λ y. y ∷ drop (suc i) l) (sym is))

moved : (found : List Signed) (s : Signed) (o : Option (List Signed))
    → option_map (λ rest. found ++ rest) (option_map (λ rest. s ∷ rest) o) ≡ option_map (λ rest. (found ++ s ∷ []) ++ rest) o
moved found s None = refl
moved found s (Some rest) = ap Some (sym (append_assoc found (s ∷ []) rest))

one_more : (found : List Signed) (s : Signed) (j : Json) (js : Items) → signature_in j ≡ Some s
    → option_map (λ rest. found ++ rest) (signatures_of (item j js)) ≡ option_map (λ rest. (found ++ s ∷ []) ++ rest) (signatures_of js)
one_more found s j js is = rw is (moved found s (signatures_of js))

none_more : (found : List Signed) (j : Json) (js : Items) → signature_in j ≡ None
    → option_map (λ rest. found ++ rest) (signatures_of (item j js)) ≡ None
none_more found j js is = rw is refl

-- the signatures found before value i, with those in the values from i on
abbrev pub from_value : List Signature → List (Value Global) → ℕ → Option (List Signed)
from_value found values i = option_map (λ rest. map said_by found ++ rest) (signatures_of (items_view (drop i values)))

taken : (found : List Signature) (values : List (Value Global)) (i : ℕ) (v : Value Global) → i < length values → v ≡ get_or values i v
    → from_value found values i ≡ option_map (λ rest. map said_by found ++ rest) (signatures_of (item (value_view v) (items_view (drop (i + 1) values))))
taken found values i v low is = ap (λ l. option_map (λ rest. map said_by found ++ rest) (signatures_of (items_view l))) (dropped values i v low is)

pub value_read : (found new : List Signature) (values : List (Value Global)) (i : ℕ) (v : Value Global) (s : Signature) (whole : Option (List Signed))
    → i < length values → v ≡ get_or values i v → signature_in (value_view v) ≡ Some (said_by s) → new ≡ found ++ s ∷ []
    → from_value found values i ≡ whole → from_value new values (i + 1) ≡ whole
value_read found new values i v s whole low is reads new_is so_far =
    let rest : Items = items_view (drop (i + 1) values) in
    ap (λ l. option_map (λ r. l ++ r) (signatures_of rest)) (ap (map said_by) new_is ∙ map-append said_by found (s ∷ []))
    ∙ sym (one_more (map said_by found) (said_by s) (value_view v) rest reads)
    ∙ sym (taken found values i v low is)
    ∙ so_far

pub value_refused : (found : List Signature) (values : List (Value Global)) (i : ℕ) (v : Value Global) (whole : Option (List Signed))
    → i < length values → v ≡ get_or values i v → signature_in (value_view v) ≡ None → from_value found values i ≡ whole → whole ≡ None
value_refused found values i v whole low is refuses so_far =
    sym so_far ∙ taken found values i v low is ∙ none_more (map said_by found) (value_view v) (items_view (drop (i + 1) values)) refuses

-- the tokens before signature i, with those of the signatures from i on
abbrev pub from_signature : List Token → List Signature → ℕ → List Token
from_signature tokens signatures i = tokens ++ items_tokens (signatures_json (map said_by (drop i signatures)))

pub signature_written : (old new : List Token) (signatures : List Signature) (i : ℕ) (s : Signature) (whole : List Token)
    → i < length signatures → s ≡ get_or signatures i s → new ≡ old ++ json_tokens (signature_json (said_by s))
    → from_signature old signatures i ≡ whole → from_signature new signatures (i + 1) ≡ whole
signature_written old new signatures i s whole low is new_is so_far =
    let rest : List Token = items_tokens (signatures_json (map said_by (drop (i + 1) signatures))) in
    let its : List Token = json_tokens (signature_json (said_by s)) in
    let all : drop i signatures ≡ s ∷ drop (i + 1) signatures = dropped signatures i s low is in
    ap (λ l. l ++ rest) new_is
    ∙ append_assoc old its rest
    ∙ sym (ap (λ l. old ++ items_tokens (signatures_json (map said_by l))) all)
    ∙ so_far
