-- A key file that was written is read as its key.
use Rattle.std.proofs.Common.{◌≡◌, ℕ, ◌+◌, ◌*◌, ◌≤◌, zero, suc, true, false, not, List, [], ◌∷◌, ◌++◌, length, take, drop, nat_eq, Option, None, Some, Ok, option_map, codes, refl, sym, ap, ◌∙◌, arith, is_some, inl, inr, subst, Err, if◌then◌else◌}
use Rattle.std.specs.Bool.{◌==◌}
use Rattle.std.specs.List.{starts_with}
use Rattle.std.proofs.Math.Seq.{drop-append-add, take-append_seam}
use Rattle.std.proofs.lemmas.Bool.{and_parts, eq-eqb}
use Rattle.std.proofs.lemmas.Bool.Decides.{eqb_tells}
use Rattle.std.proofs.lemmas.List.{append-nil, take_all}
use Rattle.std.specs.Int.{div_ceil}
use Rattle.slh_bytes.specs.declared.error.KeyFileError.TheVariants.{NoEnd}
use Rattle.slh_bytes.specs.Blocks.{block_in, begin_mark, checked_block}
use Rattle.base64.specs.Engines.{standard}
use Rattle.base64.specs.GeneralPurpose.{IsBytes, decode_of, encode_of}
use Rattle.base64.proofs.EngineFacts.{decode_of-encode_of}
use Rattle.slh_sets.specs.declared.set.Set.{Set}
use Rattle.slh_bytes.proofs.Ders.{der_parts, is_der_of, last_bytes}
use Rattle.slh_bytes.proofs.HeadTable.{der_bytes, found_in_all, head_at, head_at_is, same_set}
use Rattle.slh_bytes.specs.Heads.{begin_line, der_of, end_line, is_der, key_len, label}
use Rattle.slh_bytes.specs.Reading.{block_key, body_key, decoded_key, der_key, key_in, key_of_set, key_with, label_error, pem_key}
use Rattle.std.specs.Str.{bytes_eq}
use Rattle.slh_bytes.specs.Lines.{is_blank, line_key, squeezed}
use Rattle.slh_bytes.specs.Places.{cut_at, first_place}
use Rattle.slh_bytes.specs.Writing.{first_lines, key_file, lines_of_64}
use Rattle.slh_bytes.specs.declared.key.Kind.{Kind}
use Rattle.slh_bytes.specs.declared.key.Kind.TheVariants.{Signing, Verifying}
use Rattle.slh_bytes.proofs.Searches.{moved, not_moved}
use Rattle.slh_bytes.proofs.Symbols.{are_symbols, base64_symbols, dropped, kept, no_dash, no_dash-append, taken, undashed}
use Rattle.slh_bytes.specs.Blocks.{behind}
use Rattle.std.proofs.lemmas.List.{take-append-drop, take-take, drop-take}
use Rattle.std.proofs.lemmas.List.Elements.{filter-append}

moved_more : (n : ℕ) (found : Option ℕ) → option_map (λ k. k + 1) (moved n found) ≡ moved (suc n) found
moved_more n None = refl
moved_more n (Some k) = ap Some (omega arith)

true_not_false : false ≡ true → ⊥
true_not_false e = cc e

apart : (x : ℕ) → not (x == 45) ≡ true → nat_eq 45 x ≡ false
apart x h = elim (eqb_tells 45 x) [
  | inl same ↦ let e : (x == 45) ≡ true = eq-eqb x 45 (sym same.1) in absurd (true_not_false (sym (ap not e) ∙ h))
  | inr different ↦ different.0
]

not_here : (x : ℕ) (rest mark : List ℕ) → not (x == 45) ≡ true → starts_with nat_eq (x ∷ rest) (45 ∷ mark) ≡ false
not_here x rest mark h =
    let other : nat_eq 45 x ≡ false = apart x h in
    rw other refl

-- a mark that begins with a dash is looked for behind bytes without any
pub behind_plain : (mark front back : List ℕ) → no_dash front ≡ true
    → first_place (45 ∷ mark) (front ++ back) ≡ moved (length front) (first_place (45 ∷ mark) back)
behind_plain mark [] back h = not_moved (first_place (45 ∷ mark) back)
behind_plain mark (x ∷ front) back h =
    let both = and_parts _ _ h in
    rw (not_here x (front ++ back) mark both.0, behind_plain mark front back both.1)
    (moved_more (length front) (first_place (45 ∷ mark) back))

-- the text of a key file, around the lines of its symbols
abbrev pub framed : Kind → List ℕ → List ℕ
framed kind lines = begin_line kind ++ lines ++ end_line kind

pub begins : (kind : Kind) (lines : List ℕ) → first_place begin_mark (framed kind lines) ≡ Some 0
begins Signing lines = refl
begins Verifying lines = refl

pub cut_behind : (mark front back : List ℕ) → no_dash front ≡ true → first_place (45 ∷ mark) back ≡ Some 0
    → cut_at (45 ∷ mark) (front ++ back) ≡ Some (front, drop (length (45 ∷ mark)) back)
cut_behind mark front back plain here =
    let place : first_place (45 ∷ mark) (front ++ back) ≡ Some (0 + length front) =
    behind_plain mark front back plain ∙ ap (moved (length front)) here in
    let zeros : 0 + length front ≡ length front = omega arith in
    let before : take (0 + length front) (front ++ back) ≡ front =
    ap (λ n. take n (front ++ back)) zeros ∙ take-append_seam front back in
    let after : drop (0 + length front + length (45 ∷ mark)) (front ++ back) ≡ drop (length (45 ∷ mark)) back =
    ap (λ n. drop (n + length (45 ∷ mark)) (front ++ back)) zeros ∙ drop-append-add front back (length (45 ∷ mark)) in
    ap (option_map (λ at. (take at (front ++ back), drop (at + length (45 ∷ mark)) (front ++ back)))) place
    ∙ ap (λ (t : List ℕ). Some (t, drop (0 + length front + length (45 ∷ mark)) (front ++ back))) before
    ∙ ap (λ (t : List ℕ). Some (front, t)) after

pub read_block : (kind : Kind) (lines : List ℕ) → no_dash lines ≡ true → block_in (framed kind lines) ≡ Ok (label kind, 10 ∷ lines)
read_block Signing lines plain =
    ap (λ found. behind NoEnd found (λ body rest. behind NoEnd (cut_at (codes "-----") rest) (λ last rest. checked_block (label Signing) body last rest)))
    (cut_behind (codes "----END ") (10 ∷ lines) (end_line Signing) plain refl)
read_block Verifying lines plain =
    ap (λ found. behind NoEnd found (λ body rest. behind NoEnd (cut_at (codes "-----") rest) (λ last rest. checked_block (label Verifying) body last rest)))
    (cut_behind (codes "----END ") (10 ∷ lines) (end_line Verifying) plain refl)

take_two : (a n : ℕ) (d : List ℕ) → take (a + n) d ≡ take a d ++ take n (drop a d)
take_two a n d =
    let whole : take a (take (a + n) d) ++ drop a (take (a + n) d) ≡ take (a + n) d = take-append-drop a (take (a + n) d) in
    sym (rw (take-take a (a + n) d (omega arith), drop-take a n d) at whole)

pub undashed_lines : (k : ℕ) (bytes : List ℕ) → are_symbols bytes ≡ true → no_dash (first_lines k bytes) ≡ true
undashed_lines zero bytes plain = refl
undashed_lines (suc k) bytes plain =
    let line = undashed (take 64 (drop (64 * k) bytes)) (taken 64 (drop (64 * k) bytes) (dropped (64 * k) bytes plain)) in
    no_dash-append (first_lines k bytes) (take 64 (drop (64 * k) bytes) ++ 10 ∷ []) (undashed_lines k bytes plain)
    (no_dash-append (take 64 (drop (64 * k) bytes)) (10 ∷ []) line refl)

squeezed_lines : (k : ℕ) (bytes : List ℕ) → are_symbols bytes ≡ true → squeezed (first_lines k bytes) ≡ take (64 * k) bytes
squeezed_lines zero bytes plain = refl
squeezed_lines (suc k) bytes plain =
    let line = take 64 (drop (64 * k) bytes) in
    let whole = kept line (taken 64 (drop (64 * k) bytes) (dropped (64 * k) bytes plain)) in
    let next : 64 * k + 64 ≡ 64 * suc k = omega arith in
    filter-append (λ b. not (is_blank b)) (first_lines k bytes) (line ++ 10 ∷ [])
    ∙ ap (λ (t : List ℕ). t ++ squeezed (line ++ 10 ∷ [])) (squeezed_lines k bytes plain)
    ∙ ap (λ (t : List ℕ). take (64 * k) bytes ++ t) (filter-append (λ b. not (is_blank b)) line (10 ∷ []) ∙ append-nil (squeezed line) ∙ whole)
    ∙ sym (take_two (64 * k) 64 bytes) ∙ ap (λ n. take n bytes) next

enough : (n : ℕ) → n ≤ 64 * div_ceil n 64
enough n = grind arith

pub lines_squeezed : (bytes : List ℕ) → are_symbols bytes ≡ true → squeezed (10 ∷ lines_of_64 bytes) ≡ bytes
lines_squeezed bytes plain =
    squeezed_lines (div_ceil (length bytes) 64) bytes plain
    ∙ take_all (64 * div_ceil (length bytes) 64) bytes (enough (length bytes))

pub file_block : (kind : Kind) (bytes : List ℕ) → are_symbols bytes ≡ true
    → block_in (framed kind (lines_of_64 bytes)) ≡ Ok (label kind, 10 ∷ lines_of_64 bytes)
file_block kind bytes plain = read_block kind (lines_of_64 bytes) (undashed_lines (div_ceil (length bytes) 64) bytes plain)

pub read_der : (kind : Kind) (set : Set) (key : List ℕ) → length key ≡ key_len kind set → der_key kind (der_of kind set key) ≡ Ok (key_with set key)
read_der kind set key sized =
    let der = der_of kind set key in
    let whole : der ≡ head_at kind set ++ key = sym (head_at_is kind set key sized) in
    let passes : is_der kind set der ≡ true = is_der_of kind set (head_at kind set) key der (head_at_is kind set) sized whole in
    let only : (other : Set) → is_der kind other der ≡ true → other ≡ set =
    λ other passed. let parts = der_parts kind other (head_at kind other) der (head_at_is kind other) passed in
    same_set kind set other der key parts.key whole parts.is in
    ap (key_of_set kind der) (found_in_all (λ s. is_der kind s der) set passes only)
    ∙ ap (λ (b : List ℕ). Ok (key_with set b)) (last_bytes (head_at kind set) key der (key_len kind set) sized whole)

read_body : (kind : Kind) (set : Set) (key : List ℕ) → IsBytes key → length key ≡ key_len kind set
    → body_key kind (10 ∷ lines_of_64 (encode_of standard (der_of kind set key))) ≡ Ok (key_with set key)
read_body kind set key bytes sized =
    let der = der_of kind set key in
    let symbols = encode_of standard der in
    let der_is : head_at kind set ++ key ≡ der = head_at_is kind set key sized in
    let P : List ℕ → Type 0 = λ d. IsBytes d in
    let der_are : IsBytes der = subst P der_is (der_bytes kind set key bytes) in
    ap (λ (b : List ℕ). decoded_key kind (decode_of standard b)) (lines_squeezed symbols (base64_symbols der))
    ∙ ap (decoded_key kind) (decode_of-encode_of standard der refl der_are)
    ∙ read_der kind set key sized

labelled : (kind : Kind) → bytes_eq (label kind) (label kind) ≡ true
labelled Signing = refl
labelled Verifying = refl

pub written_is_read : (kind : Kind) (set : Set) (key : List ℕ) → IsBytes key → length key ≡ key_len kind set
    → key_in kind (key_file kind set key) ≡ Ok (key_with set key)
written_is_read kind set key bytes sized =
    let symbols = encode_of standard (der_of kind set key) in
    let body = 10 ∷ lines_of_64 symbols in
    ap (λ found. if is_some found then pem_key kind (key_file kind set key) else line_key kind (key_file kind set key)) (begins kind (lines_of_64 symbols))
    ∙ ap (block_key kind) (file_block kind symbols (base64_symbols (der_of kind set key)))
    ∙ ap (λ same. if same then body_key kind body else Err (label_error kind (label kind))) (labelled kind)
    ∙ read_body kind set key bytes sized
