-- A checkpoint that is made, as it is read.
use Rattle.std.proofs.Common.{◌≡◌, ℕ, zero, suc, ◌+◌, ◌-◌, ◌<◌, ◌≤◌, ◌^◌, true, false, ◌&&◌, List, [], ◌∷◌, ◌++◌, length, take, drop, decimal, refl, sym, ap, subst, ◌∙◌, arith, Option, Some, None}
use Rattle.std.specs.Bool.{◌==◌}
use Rattle.std.specs.Str.{bytes_eq}
use Rattle.std.proofs.lemmas.Bool.{and_parts, leb-true, ne_eqb}
use Rattle.std.proofs.lemmas.Fmt.{decimal_nonempty, length-decimal-le}
use Rattle.std.proofs.lemmas.List.{append_assoc, drop_at, length-append, take_at}
use Rattle.std.proofs.lemmas.Slice.Eq.{bytes_eq-Decides}
use Rattle.base64.specs.GeneralPurpose.{IsBytes}
use Rattle.line_serve.specs.Fields.{field_at}
use Rattle.line_serve.specs.Lines.{parts}
use Rattle.slh_log.proofs.Cut.{after_ends, after_on, signatures_end, signatures_on, text_ends, text_on}
use Rattle.slh_log.proofs.Plain.{are_plain, cut, joined, plain_base64, plain_decimal, plain_origin}
use Rattle.slh_log.proofs.ReadBack.{bytes_read, size_read, symbols_size}
use Rattle.slh_log.proofs.Signatures.{own_on, signature_is, signed_is, stripped}
use Rattle.slh_log.specs.Reading.{after_front, after_text, are_signatures, begins_with, bytes_value, first_some, is_origin, line_at, own_signature, read_root, read_size, read_text, signature_in, size_value, text_len}
use Rattle.slh_log.specs.Texts.{base64_of, checkpoint_text, dash, signed_note}

-- bytes begin with a front that they are made of
pub begins : (front rest : List ℕ) → begins_with front (front ++ rest) ≡ true
begins front rest = rw (take_at front rest (length front) refl) ((bytes_eq-Decides front front).1 refl)

pub after : (front rest : List ℕ) → after_front front (front ++ rest) ≡ Some rest
after front rest = stripped front (front ++ rest) rest (begins front rest) (sym (drop_at front rest (length front) refl))

-- three lines, an empty line, and a line
abbrev pub note : List ℕ → List ℕ → List ℕ → List ℕ → List ℕ
note a b c s = a ++ 10 ∷ (b ++ 10 ∷ (c ++ 10 ∷ ([] ++ 10 ∷ (s ++ 10 ∷ []))))

module _ (a b c s : List ℕ) (plain_a : are_plain a ≡ true) (plain_b : are_plain b ≡ true) (plain_c : are_plain c ≡ true) (plain_s : are_plain s ≡ true) where
  pub parts_are : parts (note a b c s) ≡ a ∷ b ∷ c ∷ [] ∷ s ∷ [] ∷ []
  parts_are =
      cut a (b ++ 10 ∷ (c ++ 10 ∷ ([] ++ 10 ∷ (s ++ 10 ∷ [])))) plain_a
      ∙ ap (λ r. a ∷ r) (cut b (c ++ 10 ∷ ([] ++ 10 ∷ (s ++ 10 ∷ []))) plain_b
      ∙ ap (λ r. b ∷ r) (cut c ([] ++ 10 ∷ (s ++ 10 ∷ [])) plain_c
      ∙ ap (λ r. c ∷ r) (cut [] (s ++ 10 ∷ []) refl
      ∙ ap (λ r. [] ∷ r) (cut s [] plain_s))))

abbrev text3 : List ℕ → List ℕ → List ℕ → List ℕ
text3 a b c = a ++ 10 ∷ (b ++ 10 ∷ (c ++ 10 ∷ []))

split : (a b c s : List ℕ) → note a b c s ≡ text3 a b c ++ ([] ++ 10 ∷ (s ++ 10 ∷ []))
split a b c s = sym (append_assoc a (10 ∷ (b ++ 10 ∷ (c ++ 10 ∷ []))) (10 ∷ (s ++ 10 ∷ []))
    ∙ ap (λ r. a ++ 10 ∷ r) (append_assoc b (10 ∷ (c ++ 10 ∷ [])) (10 ∷ (s ++ 10 ∷ []))
    ∙ ap (λ r. b ++ 10 ∷ r) (append_assoc c (10 ∷ []) (10 ∷ (s ++ 10 ∷ [])))))

some : (line : List ℕ) → 0 < length line → (length line == 0) ≡ false
some line h = ne_eqb (length line) 0 (omega arith)

module _ (a b c s : List ℕ) (some_a : 0 < length a) (some_b : 0 < length b) (some_c : 0 < length c) where
  pub after_is : after_text (a ∷ b ∷ c ∷ [] ∷ s ∷ [] ∷ []) ≡ s ∷ [] ∷ []
  after_is =
      after_on a (b ∷ c ∷ [] ∷ s ∷ [] ∷ []) (some a some_a) ∙ after_on b (c ∷ [] ∷ s ∷ [] ∷ []) (some b some_b)
      ∙ after_on c ([] ∷ s ∷ [] ∷ []) (some c some_c) ∙ after_ends [] (s ∷ [] ∷ []) refl

  pub len_is : text_len (a ∷ b ∷ c ∷ [] ∷ s ∷ [] ∷ []) ≡ length (a ++ 10 ∷ (b ++ 10 ∷ (c ++ 10 ∷ [])))
  len_is =
      omega (
        arith,
        text_on a (b ∷ c ∷ [] ∷ s ∷ [] ∷ []) (some a some_a),
        text_on b (c ∷ [] ∷ s ∷ [] ∷ []) (some b some_b),
        text_on c ([] ∷ s ∷ [] ∷ []) (some c some_c),
        text_ends [] (s ∷ [] ∷ []) refl,
        length-append a (10 ∷ (b ++ 10 ∷ (c ++ 10 ∷ []))),
        length-append b (10 ∷ (c ++ 10 ∷ [])),
        length-append c (10 ∷ []),
      )

  pub text_is : take (text_len (a ∷ b ∷ c ∷ [] ∷ s ∷ [] ∷ [])) (note a b c s) ≡ a ++ 10 ∷ (b ++ 10 ∷ (c ++ 10 ∷ []))
  text_is =
      ap (λ n. take n (note a b c s)) len_is ∙ ap (take (length (text3 a b c))) (split a b c s)
      ∙ take_at (text3 a b c) ([] ++ 10 ∷ (s ++ 10 ∷ [])) (length (text3 a b c)) refl

-- the line of a signature
module _ (name id sig : List ℕ) (bytes : IsBytes (id ++ sig)) (id_len : length id ≡ 4) where
  abbrev pub line : List ℕ
  line = dash ++ (name ++ 32 ∷ base64_of (id ++ sig))

  pub plain_line : are_plain name ≡ true → are_plain line ≡ true
  plain_line plain = joined dash (name ++ 32 ∷ base64_of (id ++ sig)) refl (joined name (32 ∷ base64_of (id ++ sig)) plain (plain_base64 (id ++ sig)))

  pub is_line : are_signatures (line ∷ [] ∷ []) ≡ true
  is_line = signatures_on line ([] ∷ []) refl ∙ rw (begins dash (name ++ 32 ∷ base64_of (id ++ sig)), signatures_end []) refl

  is_signed : (count : ℕ) → length (id ++ sig) ≡ count → signature_in count name id line ≡ Some (id ++ sig)
  is_signed count size =
      signature_is count name id line (name ++ 32 ∷ base64_of (id ++ sig)) (32 ∷ base64_of (id ++ sig)) (base64_of (id ++ sig))
      (after dash (name ++ 32 ∷ base64_of (id ++ sig))) (after name (32 ∷ base64_of (id ++ sig))) (after (32 ∷ []) (base64_of (id ++ sig)))
      ∙ signed_is count id (base64_of (id ++ sig)) (id ++ sig) (bytes_read (id ++ sig) count bytes size) (begins id sig)

  pub own_line : (count : ℕ) → length (id ++ sig) ≡ count → own_signature count name id (line ∷ [] ∷ []) ≡ Some (id ++ sig)
  own_line count size = own_on count name id line ([] ∷ []) refl ∙ ap (λ v. first_some v (own_signature count name id ([] ∷ []))) (is_signed count size)

-- ---- the whole

-- what is read in a checkpoint that was made
pub record Reads (count : ℕ) (origin : List ℕ) (size : ℕ) (root id sig bytes : List ℕ) : Type 0 where
  pub first : line_at bytes 0 ≡ origin
  pub is_size : read_size bytes ≡ Some size
  pub is_root : read_root bytes ≡ Some root
  pub is_text : read_text bytes ≡ checkpoint_text origin size root
  pub signatures : are_signatures (after_text (parts bytes)) ≡ true
  pub own : own_signature count origin id (after_text (parts bytes)) ≡ Some (id ++ sig)
  pub short : length bytes ≤ 2 ^ 60

note_is : (origin : List ℕ) (size : ℕ) (root id sig : List ℕ) → signed_note (checkpoint_text origin size root) origin id sig
    ≡ note origin (decimal size) (base64_of root) (dash ++ (origin ++ 32 ∷ base64_of (id ++ sig)))
note_is origin size root id sig =
    let s = dash ++ (origin ++ 32 ∷ base64_of (id ++ sig)) in
    let ends : dash ++ (origin ++ 32 ∷ (base64_of (id ++ sig) ++ 10 ∷ [])) ≡ s ++ 10 ∷ [] =
    sym (append_assoc dash (origin ++ 32 ∷ base64_of (id ++ sig)) (10 ∷ []) ∙ ap (λ x. dash ++ x) (append_assoc origin (32 ∷ base64_of (id ++ sig)) (10 ∷ []))) in
    ap (λ x. checkpoint_text origin size root ++ 10 ∷ x) ends ∙ sym (split origin (decimal size) (base64_of root) s)

note_short : (a b c s : List ℕ) (n : ℕ) → length a ≤ n → length b ≤ n → length c ≤ n → length s ≤ n → n ≤ 2 ^ 50 → length (note a b c s) ≤ 2 ^ 60
note_short a b c s n fa fb fc fs few =
    omega (
      arith,
      length-append a (10 ∷ (b ++ 10 ∷ (c ++ 10 ∷ ([] ++ 10 ∷ (s ++ 10 ∷ []))))),
      length-append b (10 ∷ (c ++ 10 ∷ ([] ++ 10 ∷ (s ++ 10 ∷ [])))),
      length-append c (10 ∷ ([] ++ 10 ∷ (s ++ 10 ∷ []))),
      length-append s (10 ∷ []),
    )

module _ (count : ℕ) (origin : List ℕ) (size : ℕ) (root id sig : List ℕ) (is : is_origin origin ≡ true) (low : size < 2 ^ 64) (are : IsBytes root) (root_len : length root ≡ 32)
    (signed : IsBytes (id ++ sig)) (id_len : length id ≡ 4) (sig_len : length (id ++ sig) ≡ count) (few : count ≤ 2 ^ 20) where
  abbrev b : List ℕ
  b = decimal size

  abbrev c : List ℕ
  c = base64_of root

  abbrev s : List ℕ
  s = dash ++ (origin ++ 32 ∷ base64_of (id ++ sig))

  plain : are_plain origin ≡ true
  plain = plain_origin origin (and_parts _ _ is).1

  some_origin : 1 ≤ length origin
  some_origin = leb-true 1 (length origin) (and_parts _ _ (and_parts _ _ is).0).0

  few_origin : length origin ≤ 255
  few_origin = leb-true (length origin) 255 (and_parts _ _ (and_parts _ _ is).0).1

  ps : parts (note origin b c s) ≡ origin ∷ b ∷ c ∷ [] ∷ s ∷ [] ∷ []
  ps = parts_are origin b c s plain (plain_decimal size low) (plain_base64 root) (plain_line origin id sig signed id_len plain)

  some_root : 0 < length c
  some_root = omega (arith, symbols_size root)

  rest : after_text (parts (note origin b c s)) ≡ s ∷ [] ∷ []
  rest = ap after_text ps ∙ after_is origin b c s (omega (arith, some_origin)) (decimal_nonempty size low) some_root

  read : Reads count origin size root id sig (note origin b c s)
  read = record {
    first = ap (λ p. field_at p 0) ps;
    is_size = ap (λ p. size_value (field_at p 1)) ps ∙ size_read size low;
    is_root = ap (λ p. bytes_value 32 (field_at p 2)) ps ∙ bytes_read root 32 are root_len;
    is_text = ap (λ p. take (text_len p) (note origin b c s)) ps ∙ text_is origin b c s (omega (arith, some_origin)) (decimal_nonempty size low) some_root;
    signatures = ap are_signatures rest ∙ is_line origin id sig signed id_len;
    own = ap (own_signature count origin id) rest ∙ own_line origin id sig signed id_len count sig_len;
    short = note_short origin b c s (2 ^ 24) (omega (arith, few_origin)) (omega (arith, length-decimal-le 20 size (omega arith) (omega arith) low)) (omega (arith, symbols_size root))
        (omega (arith, few_origin, symbols_size (id ++ sig), length-append dash (origin ++ 32 ∷ base64_of (id ++ sig)), length-append origin (32 ∷ base64_of (id ++ sig)))) (omega arith);
  }

  pub made_reads : Reads count origin size root id sig (signed_note (checkpoint_text origin size root) origin id sig)
  made_reads = subst (Reads count origin size root id sig) (sym (note_is origin size root id sig)) read

pub text_short : (origin : List ℕ) (size : ℕ) (root : List ℕ) → length origin ≤ 255 → size < 2 ^ 64 → length root ≡ 32 → length (checkpoint_text origin size root) ≤ 2 ^ 60
text_short origin size root few low root_len =
    omega (
      arith,
      few,
      length-decimal-le 20 size (omega arith) (omega arith) low,
      symbols_size root,
      length-append origin (10 ∷ (decimal size ++ 10 ∷ (base64_of root ++ 10 ∷ []))),
      length-append (decimal size) (10 ∷ (base64_of root ++ 10 ∷ [])),
      length-append (base64_of root) (10 ∷ []),
    )
