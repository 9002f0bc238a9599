-- A printed value of texts alone is read back with a line feed behind it, and is UTF-8.
use Rattle.std.proofs.Common.{◌≡◌, ℕ, Bool, true, false, cond, ◌&&◌, List, [], ◌∷◌, ◌++◌, Some, refl, sym, ap, ap₂, ◌∙◌, append_assoc, option_and_then}
use Rattle.std.specs.Prelude.{⊤}
use Rattle.std.specs.Str.{IsUtf8}
use Rattle.std.proofs.lemmas.Str.{IsUtf8-append}
use Rattle.json.specs.Json.{Json, document, if_last, max_depth, value}
use Rattle.json.specs.Lex.{Lexeme, between, comma, fresh, lex, punctuate, string_token, token}
use Rattle.json.specs.Print.{begins, ends, escape, print, print_from, quoted, separator, token_text}
use Rattle.json.specs.Token.{Token, begin_object, end_object, begin_array, end_array, key, string, number, boolean, null, bad}
use Rattle.json.specs.Tree.{HasNumbers, depth, json_tokens}
use Rattle.json.proofs.Printed.Strings.{content-escape, lex-escape}
use Rattle.json.proofs.Printed.Trees.{document-print}
use Rattle.json.proofs.Printed.Utf8.{IsUtf8-are_ascii, IsUtf8-key, IsUtf8-quoted, IsUtf8-separator}
use Rattle.std.proofs.Common.{◌≤◌}

-- a bracket, or a text that is UTF-8
abbrev pub IsText : Token → Type 0
IsText begin_object = ⊤
IsText end_object = ⊤
IsText begin_array = ⊤
IsText end_array = ⊤
IsText (key s) = IsUtf8 s
IsText (string s) = IsUtf8 s
IsText (number s) = ⊥
IsText (boolean b) = ⊥
IsText null = ⊥
IsText bad = ⊥

abbrev pub AreTexts : List Token → Type 0
AreTexts [] = ⊤
AreTexts (t ∷ ts) = IsText t × AreTexts ts

abbrev IsLexedAs : List ℕ → List ℕ → Type 0
IsLexedAs r q = lex between r ≡ lex between q

lex-quoted : (s r : List ℕ) → lex between (quoted s ++ r) ≡ token (string s) ∷ lex between r
unfolding lex
lex-quoted s r =
    let e = append_assoc (escape s) (34 ∷ []) r in
    ap (λ l. lex between (34 ∷ l)) e ∙ ap₂ (λ o l. token (string_token o) ∷ l) (content-escape s r) (lex-escape s r)

quoted_same : (s r q : List ℕ) → IsLexedAs r q → IsLexedAs (quoted s ++ r) (quoted s ++ q)
quoted_same s r q same = lex-quoted s r ∙ ap (λ l. token (string s) ∷ l) same ∙ sym (lex-quoted s q)

colon_same : (r q : List ℕ) → IsLexedAs r q → IsLexedAs (58 ∷ r) (58 ∷ q)
unfolding lex
colon_same r q same = ap (λ l. Lexeme.colon ∷ l) same

token_same : (t : Token) (r q : List ℕ) → IsText t → IsLexedAs r q → IsLexedAs (token_text t ++ r) (token_text t ++ q)
unfolding lex
token_same begin_object r q h same = ap (λ l. token begin_object ∷ l) same
token_same end_object r q h same = ap (λ l. token end_object ∷ l) same
token_same begin_array r q h same = ap (λ l. token begin_array ∷ l) same
token_same end_array r q h same = ap (λ l. token end_array ∷ l) same
token_same (key s) r q h same =
    ap (lex between) (append_assoc (quoted s) (58 ∷ []) r)
    ∙ quoted_same s (58 ∷ r) (58 ∷ q) (colon_same r q same)
    ∙ sym (ap (lex between) (append_assoc (quoted s) (58 ∷ []) q))
token_same (string s) r q h same = quoted_same s r q same
token_same (number s) r q h same = absurd h
token_same (boolean b) r q h same = absurd h
token_same null r q h same = absurd h
token_same bad r q h same = absurd h

comma_same : (b : Bool) (r q : List ℕ) → IsLexedAs r q → IsLexedAs (cond b (44 ∷ []) [] ++ r) (cond b (44 ∷ []) [] ++ q)
unfolding lex
comma_same true r q same = ap (λ l. comma ∷ l) same
comma_same false r q same = same

line_same : (c : Bool) (ts : List Token) → AreTexts ts → IsLexedAs (print_from c ts ++ 10 ∷ []) (print_from c ts)
unfolding lex print_from
line_same c [] h = refl
line_same c (t ∷ ts) h =
    let rest = print_from (ends t) ts in
    let first : List ℕ = separator c t in
    ap (lex between) (append_assoc first (token_text t ++ rest) (10 ∷ []) ∙ ap (λ l. first ++ l) (append_assoc (token_text t) rest (10 ∷ [])))
    ∙ comma_same (c && begins t) (token_text t ++ (rest ++ 10 ∷ [])) (token_text t ++ rest) (token_same t (rest ++ 10 ∷ []) rest h.0 (line_same (ends t) ts h.1))

pub document-line : (j : Json) → AreTexts (json_tokens j) → HasNumbers j → depth j ≤ max_depth → document (print (json_tokens j) ++ 10 ∷ []) ≡ Some j
document-line j texts numbers shallow =
    ap (λ ls. option_and_then (λ p. if_last p.0 p.1) (value max_depth (punctuate fresh ls))) (line_same false (json_tokens j) texts)
    ∙ document-print j numbers shallow

token_utf8 : (t : Token) → IsText t → IsUtf8 (token_text t)
token_utf8 begin_object h = IsUtf8-are_ascii _ refl
token_utf8 end_object h = IsUtf8-are_ascii _ refl
token_utf8 begin_array h = IsUtf8-are_ascii _ refl
token_utf8 end_array h = IsUtf8-are_ascii _ refl
token_utf8 (key s) h = IsUtf8-key s h
token_utf8 (string s) h = IsUtf8-quoted s h
token_utf8 (number s) h = absurd h
token_utf8 (boolean b) h = absurd h
token_utf8 null h = absurd h
token_utf8 bad h = absurd h

pub line_utf8 : (c : Bool) (ts : List Token) → AreTexts ts → IsUtf8 (print_from c ts ++ 10 ∷ [])
unfolding print_from
line_utf8 c [] h = IsUtf8-are_ascii _ refl
line_utf8 c (t ∷ ts) h =
    let rest = print_from (ends t) ts in
    let first : List ℕ = separator c t in
    rw (append_assoc first (token_text t ++ rest) (10 ∷ []), append_assoc (token_text t) rest (10 ∷ []))
    (IsUtf8-append first _ (IsUtf8-separator c t) (IsUtf8-append (token_text t) _ (token_utf8 t h.0) (line_utf8 (ends t) ts h.1)))
