-- A block that is read as a key has the symbols that are written for this key, and no others.
use Rattle.std.proofs.Common.{◌≡◌, ℕ, ◌+◌, zero, suc, Bool, true, false, not, List, [], ◌∷◌, length, take, drop, filter, Option, None, Some, Result, Ok, Err, refl, sym, ◌∙◌, ap, subst, option_map, cond, if◌then◌else◌, codes, arith}
use Rattle.std.proofs.lemmas.Bool.{and_parts, lt-ltb, ltb-true}
use Rattle.std.proofs.lemmas.Slice.Eq.{bytes_eq-Decides}
use Rattle.std.specs.Cmp.Derive.{both_true}
use Rattle.std.specs.List.{find}
use Rattle.std.specs.Str.{bytes_eq}
use Rattle.base64.proofs.EngineFacts.{decode_of_strict}
use Rattle.base64.specs.Engines.{standard}
use Rattle.base64.specs.GeneralPurpose.{IsBytes, decode_of, encode_of}
use Rattle.base64.specs.declared.decode.DecodeError.{DecodeError}
use Rattle.slh_sets.specs.Sets.{all_sets}
use Rattle.slh_sets.specs.declared.set.Set.{Set}
use Rattle.slh_bytes.specs.Blocks.{begin_mark, behind, block_in}
use Rattle.slh_bytes.specs.Heads.{der_of, is_der, key_behind, label}
use Rattle.slh_bytes.specs.Lines.{is_blank, squeezed}
use Rattle.slh_bytes.specs.Places.{cut_at, first_place}
use Rattle.slh_bytes.specs.Reading.{block_key, body_key, decoded_key, key_of_set, key_with, label_error, pem_key}
use Rattle.slh_bytes.specs.declared.error.KeyFileError.{KeyFileError}
use Rattle.slh_bytes.specs.declared.error.KeyFileError.TheVariants.{NoEnd, SecondBlock}
use Rattle.slh_bytes.specs.declared.key.Key.{Key}
use Rattle.slh_bytes.specs.declared.key.Kind.{Kind}
use Rattle.slh_bytes.proofs.HeadTable.{are_bytes}

-- bytes, all of them or one by one

all_bytes : (m : List ℕ) → IsBytes m → are_bytes m ≡ true
all_bytes [] bytes = refl
all_bytes (x ∷ m) bytes = both_true (lt-ltb x 256 (bytes 0)) (all_bytes m (λ i. bytes (suc i)))

each_byte : (m : List ℕ) → are_bytes m ≡ true → IsBytes m
each_byte [] all zero = omega arith
each_byte [] all (suc i) = omega arith
each_byte (x ∷ m) all zero = ltb-true x 256 (and_parts _ _ all).0
each_byte (x ∷ m) all (suc i) = each_byte m (and_parts _ _ all).1 i

all_taken : (n : ℕ) (m : List ℕ) → are_bytes m ≡ true → are_bytes (take n m) ≡ true
all_taken zero m all = refl
all_taken (suc n) [] all = refl
all_taken (suc n) (x ∷ m) all = let both = and_parts _ _ all in both_true both.0 (all_taken n m both.1)

all_dropped : (n : ℕ) (m : List ℕ) → are_bytes m ≡ true → are_bytes (drop n m) ≡ true
all_dropped zero m all = all
all_dropped (suc n) [] all = refl
all_dropped (suc n) (x ∷ m) all = all_dropped n m (and_parts _ _ all).1

all_kept : (p : ℕ → Bool) (m : List ℕ) → are_bytes m ≡ true → are_bytes (filter p m) ≡ true
all_kept p [] all = refl
all_kept p (x ∷ m) all =
    let both = and_parts _ _ all in
    elim (p x) as (λ kept. are_bytes (cond kept (x ∷ filter p m) (filter p m)) ≡ true) [
      | true ↦ both_true both.0 (all_kept p m both.1)
      | false ↦ all_kept p m both.1
    ]

-- what is cut at a mark, and goes on

record Cut {A : Type 0} (found : Option (List ℕ × List ℕ)) (next : List ℕ → List ℕ → Result A KeyFileError) (r : A) : Type 0 where
  parts : List ℕ × List ℕ
  is : found ≡ Some parts
  on : next parts.0 parts.1 ≡ Ok r

went_on : {A : Type 0} (missing : KeyFileError) (found : Option (List ℕ × List ℕ)) (next : List ℕ → List ℕ → Result A KeyFileError) (r : A)
    → behind missing found next ≡ Ok r → Cut found next r
went_on missing None next r ok = cc ok
went_on missing (Some parts) next r ok = record { parts = parts; is = refl; on = ok }

parts_at : (mark text : List ℕ) (at : Option ℕ) (parts : List ℕ × List ℕ) → are_bytes text ≡ true
    → option_map (λ k. (take k text, drop (k + length mark) text)) at ≡ Some parts
    → (are_bytes parts.0 ≡ true) × (are_bytes parts.1 ≡ true)
parts_at mark text None parts all is = cc is
parts_at mark text (Some k) parts all is =
    let same : (take k text, drop (k + length mark) text) ≡ parts = cc is in
    subst (λ (p : List ℕ × List ℕ). (are_bytes p.0 ≡ true) × (are_bytes p.1 ≡ true)) same
    (all_taken k text all, all_dropped (k + length mark) text all)

abbrev ended : Bool → Bool → List ℕ → List ℕ → Result (List ℕ × List ℕ) KeyFileError
ended same second found body = if same then if second then Err SecondBlock else Ok (found, body) else Err NoEnd

the_body : (same second : Bool) (found body name inner : List ℕ) → ended same second found body ≡ Ok (name, inner) → body ≡ inner
the_body true true found body name inner is = cc is
the_body true false found body name inner is =
    let parts : List ℕ × List ℕ = (found, body) in
    let others : List ℕ × List ℕ = (name, inner) in
    let same : parts ≡ others = cc is in ap (λ (p : List ℕ × List ℕ). p.1) same
the_body false second found body name inner is = cc is

-- what stands between the lines of a block of bytes is bytes
body_bytes : (text name body : List ℕ) → are_bytes text ≡ true → block_in text ≡ Ok (name, body) → are_bytes body ≡ true
body_bytes text name body all is =
    let begun = went_on _ (cut_at begin_mark text) _ (name, body) is in
    let rest = (parts_at begin_mark text (first_place begin_mark text) begun.parts all begun.is).1 in
    let named = went_on _ (cut_at (codes "-----") begun.parts.1) _ (name, body) begun.on in
    let later = (parts_at (codes "-----") begun.parts.1 (first_place (codes "-----") begun.parts.1) named.parts rest named.is).1 in
    let inside = went_on _ (cut_at (codes "-----END ") named.parts.1) _ (name, body) named.on in
    let halves = parts_at (codes "-----END ") named.parts.1 (first_place (codes "-----END ") named.parts.1) inside.parts later inside.is in
    let last = went_on _ (cut_at (codes "-----") inside.parts.1) _ (name, body) inside.on in
    subst (λ (b : List ℕ). are_bytes b ≡ true) (the_body _ _ named.parts.0 inside.parts.0 name body last.on) halves.0

-- the key is that of the bytes that were decoded

find_passes : (p : Set → Bool) (x : Set) (ys : List Set) → find p ys ≡ Some x → p x ≡ true
find_passes p x [] is = cc is
find_passes p x (y ∷ ys) is =
    (elim (p y) as (λ b. p y ≡ b → cond b (Some y) (find p ys) ≡ Some x → p x ≡ true) [
      | true ↦ λ passes found. let same : y ≡ x = cc found in ap p (sym same) ∙ passes
      | false ↦ λ fails found. find_passes p x ys found
    ]) refl is

abbrev key_or : Key → Result Key KeyFileError → Key
key_or other (Ok key) = key
key_or other (Err e) = other

ok_alike : (x y : Key) → ◌≡◌ {A = Result Key KeyFileError} (Ok x) (Ok y) → x ≡ y
ok_alike x y same = ap (key_or x) same

der_found : (kind : Kind) (der : List ℕ) (key : Key) (found : Option Set) → find (λ set. is_der kind set der) all_sets ≡ found
    → key_of_set kind der found ≡ Ok key → der ≡ der_of kind key.set key.bytes
der_found kind der key None is ok = cc ok
der_found kind der key (Some set) is ok =
    let passes = find_passes (λ set. is_der kind set der) set all_sets is in
    let whole : der ≡ der_of kind set (key_behind kind set der) = (bytes_eq-Decides der (der_of kind set (key_behind kind set der))).0 (and_parts _ _ passes).1 in
    let same : key_with set (key_behind kind set der) ≡ key = ok_alike _ _ ok in
    whole ∙ ap (λ (k : Key). der_of kind k.set k.bytes) same

decoded : (kind : Kind) (symbols : List ℕ) (key : Key) → IsBytes symbols → (r : Result (List ℕ) DecodeError) → decode_of standard symbols ≡ r
    → decoded_key kind r ≡ Ok key → symbols ≡ encode_of standard (der_of kind key.set key.bytes)
decoded kind symbols key bytes (Err e) is ok = cc ok
decoded kind symbols key bytes (Ok der) is ok =
    decode_of_strict standard symbols der (refl, refl) bytes is ∙ ap (encode_of standard) (der_found kind der key _ refl ok)

labelled : (same : Bool) (kind : Kind) (found body : List ℕ) (key : Key)
    → cond same (body_key kind body) (Err (label_error kind found)) ≡ Ok key → body_key kind body ≡ Ok key
labelled true kind found body key ok = ok
labelled false kind found body key ok = cc ok

pub read_is_written : (kind : Kind) (text found body : List ℕ) (key : Key) → IsBytes text → block_in text ≡ Ok (found, body)
    → pem_key kind text ≡ Ok key → squeezed body ≡ encode_of standard (der_of kind key.set key.bytes)
read_is_written kind text found body key bytes block read =
    let plain = all_kept (λ b. not (is_blank b)) body (body_bytes text found body (all_bytes text bytes) block) in
    let inside = labelled (bytes_eq found (label kind)) kind found body key (sym (ap (block_key kind) block) ∙ read) in
    decoded kind (squeezed body) key (each_byte (squeezed body) plain) _ refl inside
