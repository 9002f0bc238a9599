-- Texts of paths are read back.
use Rattle.std.proofs.Common.{◌≡◌, ℕ, ◌+◌, ◌-◌, ◌*◌, suc, ◌&&◌, ◌^◌, ◌<◌, ◌≤◌, List, [], ◌∷◌, ◌++◌, length, map, true, false, Option, Some, None, if◌then◌else◌, nat_le, refl, sym, ◌∙◌, ap, arith, rules, append-nil, nat_lt, Bool}
use Rattle.std.specs.Prelude.{codes, decimal, slice_index}
use Rattle.std.specs.List.{All, AllByRecursion, join_by}
use Rattle.std.specs.Prelude.{◌==◌}
use Rattle.std.specs.Int.{IsInRange}
use Rattle.std.proofs.lemmas.Fmt.{decimal_nonempty, digits_decimal, digits_value-decimal, length-decimal-le}
use Rattle.std.proofs.lemmas.Str.Parse.{IsNumeralModel, numerals_by_fold}
use Rattle.std.proofs.lemmas.Bool.{le-leb, leb-true, lt-ltb, ltb-true}
use Rattle.std.proofs.lemmas.Bool.Decides.{nat_tests}
use Rattle.std.proofs.lemmas.List.{length-map}
use Rattle.std.proofs.lemmas.List.Elements.{All-cons, All-from_recursion, All-head, All-nil, All-tail}
use Rattle.std.proofs.lemmas.List.Splits.{slice_split_at, slice_split_none}
use Rattle.line_serve.proofs.NumbersBack.{AreDigits, decimal_digits, number_back}
use Rattle.line_serve.specs.Decimals.{is_digit, number_value, read_digits}
use Rattle.line_serve.specs.Fields.{for_some}
use Rattle.slh_ring.specs.Paths.{IsPath}
use Rattle.slh_ring.specs.PathTexts.{all_numbers, is_dot, path_parts, path_text, path_value, slash}

-- no slash stands among digits
not_slash : (c : ℕ) → IsInRange 48 57 c → (c == slash) ≡ false
not_slash c is = grind (arith, nat_tests)

no_slashes : (ds : List ℕ) → AreDigits ds → AllByRecursion (λ c. (c == slash) ≡ false) ds
no_slashes [] are = tt
no_slashes (c ∷ cs) are = (not_slash c are.0, no_slashes cs are.1)

no_slash : (n : ℕ) → n < 2 ^ 32 → All (λ c. (c == slash) ≡ false) (decimal n)
no_slash n small = All-from_recursion _ (decimal n) (no_slashes (decimal n) (decimal_digits n (omega arith)))

abbrev pub Small : ℕ → Type 0
Small x = x < 2 ^ 32

-- the parts of a path's text are its numbers
parts_back : (x : ℕ) (xs : List ℕ) → All Small (x ∷ xs) → path_parts (join_by decimal (codes "/") (x ∷ xs)) ≡ map decimal (x ∷ xs)
parts_back x [] small =
    ap path_parts (append-nil (decimal x)) ∙ slice_split_none (λ c. c == slash) (decimal x) (no_slash x (All-head Small x [] small))
parts_back x (y ∷ ys) small =
    slice_split_at (λ c. c == slash) (decimal x) slash (join_by decimal (codes "/") (y ∷ ys)) (no_slash x (All-head Small x (y ∷ ys) small)) refl
    ∙ ap (λ parts. decimal x ∷ parts) (parts_back y ys (All-tail Small x (y ∷ ys) small))

numbers_back : (xs : List ℕ) → All Small xs → all_numbers (map decimal xs) ≡ Some xs
numbers_back [] small = refl
numbers_back (x ∷ xs) small =
    rw (number_back x (All-head Small x xs small), numbers_back xs (All-tail Small x xs small)) refl

first_digit : (ds later : List ℕ) → AreDigits ds → 0 < length ds → 48 ≤ slice_index (ds ++ later) 0
first_digit [] later are some = absurd (omega arith)
first_digit (c ∷ cs) later are some = are.0.0

not_dot : (text : List ℕ) → 48 ≤ slice_index text 0 → is_dot text ≡ false
not_dot text first = grind (arith, nat_tests)

pub text_back : (path : List ℕ) → IsPath path → path_value (path_text path) ≡ Some path
text_back [] is = refl
text_back (x ∷ xs) is =
    let long : x < 2 ^ 64 = omega (arith, All-head Small x xs is.numbers) in
    let text = path_text (x ∷ xs) in
    let dotless : is_dot text ≡ false = not_dot text (first_digit (decimal x) _ (decimal_digits x long) (decimal_nonempty x long)) in
    let few : length (map decimal (x ∷ xs)) ≤ 8 = rw (length-map (x ∷ xs) decimal) is.count in
    rw (dotless, parts_back x xs is.numbers, le-leb (length (map decimal (x ∷ xs))) 8 few) (numbers_back (x ∷ xs) is.numbers)

pub texts_differ : (p q : List ℕ) → IsPath p → IsPath q → path_text p ≡ path_text q → p ≡ q
texts_differ p q is_p is_q same =
    let both : Some p ≡ Some q = sym (text_back p is_p) ∙ ap path_value same ∙ text_back q is_q in
    cc

-- what is read is a path
below_case : (limit next m : ℕ) (digit room : Bool) (cs : List ℕ) → nat_lt next limit ≡ room → (next < limit → read_digits limit next cs ≡ Some m → m < limit)
    → (if digit then if room then read_digits limit next cs else None else None) ≡ Some m → m < limit
below_case limit next m true true cs room later is = later (ltb-true _ _ room) is
below_case limit next m true false cs room later is = absurd (cc is)
below_case limit next m false room cs was later is = absurd (cc is)

digits_below : (limit n m : ℕ) (ds : List ℕ) → n < limit → read_digits limit n ds ≡ Some m → m < limit
digits_below limit n m [] below is = let same : n ≡ m = cc in rw (← same) below
digits_below limit n m (c ∷ cs) below is =
    let next = n * 10 + (c - 48) in
    below_case limit next m (is_digit c) (nat_lt next limit) cs refl (λ room read. digits_below limit next m cs room read) is

if_some : {A : Type 0} (b : Bool) (o : Option A) (x : A) → (if b then o else None) ≡ Some x → o ≡ Some x
if_some true o x is = is
if_some false o x is = absurd (cc is)

number_below : (text : List ℕ) (n : ℕ) → number_value text ≡ Some n → n < 2 ^ 32
number_below text n is =
    digits_below (2 ^ 32) 0 n text (omega arith) (if_some (nat_le 1 (length text) && nat_le (length text) 10) (read_digits (2 ^ 32) 0 text) n is)

record AreNumbers (parts : List (List ℕ)) (ns : List ℕ) : Type 0 where
  count : length ns ≡ length parts
  small : All Small ns

later_case : (text : List ℕ) (later : List (List ℕ)) (ns : List ℕ) (n : ℕ) → n < 2 ^ 32 → (rest : Option (List ℕ)) → ((ms : List ℕ) → rest ≡ Some ms → AreNumbers later ms)
    → for_some rest (λ rest. Some (n ∷ rest)) ≡ Some ns → AreNumbers (text ∷ later) ns
later_case text later ns n small None each is = absurd (cc is)
later_case text later ns n small (Some ms) each is =
    let same : n ∷ ms ≡ ns = cc in
    let rest = each ms refl in
    rw (← same) record { count = ap (λ k. suc k) rest.count; small = All-cons Small n ms small rest.small }

first_case : (text : List ℕ) (later : List (List ℕ)) (ns : List ℕ) (first : Option ℕ) → number_value text ≡ first → ((ms : List ℕ) → all_numbers later ≡ Some ms → AreNumbers later ms)
    → for_some first (λ n. for_some (all_numbers later) (λ rest. Some (n ∷ rest))) ≡ Some ns → AreNumbers (text ∷ later) ns
first_case text later ns None was each is = absurd (cc is)
first_case text later ns (Some n) was each is = later_case text later ns n (number_below text n was) (all_numbers later) each is

numbers_are : (parts : List (List ℕ)) (ns : List ℕ) → all_numbers parts ≡ Some ns → AreNumbers parts ns
numbers_are [] ns is = let none : [] ≡ ns = cc in rw (← none) record { count = refl; small = All-nil Small }
numbers_are (text ∷ later) ns is = first_case text later ns (number_value text) refl (λ ms. numbers_are later ms) is

few_case : (parts : List (List ℕ)) (path : List ℕ) (few : Bool) → nat_le (length parts) 8 ≡ few → (if few then all_numbers parts else None) ≡ Some path → IsPath path
few_case parts path true few is =
    let read = numbers_are parts path is in
    record { count = omega (arith, read.count, leb-true _ _ few); numbers = read.small }
few_case parts path false few is = absurd (cc is)

dot_case : (text path : List ℕ) (dot : Bool) → (if dot then Some [] else if nat_le (length (path_parts text)) 8 then all_numbers (path_parts text) else None) ≡ Some path → IsPath path
dot_case text path true is = let none : [] ≡ path = cc in rw (← none) record { count = omega arith; numbers = All-nil Small }
dot_case text path false is = few_case (path_parts text) path (nat_le (length (path_parts text)) 8) refl is

pub path_read : (text path : List ℕ) → path_value text ≡ Some path → IsPath path
path_read text path is = dot_case text path (is_dot text) is
