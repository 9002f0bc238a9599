-- The bytes of a key behind its head.
use Rattle.std.proofs.Common.{◌≡◌, ◌≢◌, ℕ, ◌-◌, ◌≤◌, List, ◌++◌, length, drop, Bool, true, false, nat_eq, refl, sym, ◌∙◌, ap, arith, length-append, length-drop}
use Rattle.std.proofs.Math.Seq.{drop-append_seam}
use Rattle.std.proofs.lemmas.Bool.{and_parts, eq-eqb, eqb-true, le-leb, leb-true}
use Rattle.std.proofs.lemmas.List.{append_cancel_left}
use Rattle.std.proofs.lemmas.Slice.Eq.{bytes_eq-Decides}
use Rattle.std.specs.Cmp.Derive.{both_true}
use Rattle.slh_sets.specs.declared.set.Set.{Set}
use Rattle.slh_bytes.specs.Heads.{der_of, is_der, key_behind, key_len}
use Rattle.slh_bytes.specs.declared.key.Kind.{Kind}

-- a head is what stands before each key of the right length
abbrev pub IsHead : Kind → Set → List ℕ → Type 0
IsHead kind set head = (key : List ℕ) → length key ≡ key_len kind set → head ++ key ≡ der_of kind set key

same_answer : (a b : Bool) → (a ≡ true → b ≡ true) → (b ≡ true → a ≡ true) → a ≡ b
same_answer true b forth back = sym (forth refl)
same_answer false true forth back = back refl
same_answer false false forth back = refl

pub last_bytes : (head key der : List ℕ) (size : ℕ) → length key ≡ size → der ≡ head ++ key → drop (length der - size) der ≡ key
last_bytes head key der size sized is =
    let len : length head ≡ length der - size = omega (arith, length-append head key, ap length is, sized) in
    ap (λ n. drop n der) (sym len) ∙ ap (drop (length head)) is ∙ drop-append_seam head key

pub is_der_of : (kind : Kind) (set : Set) (head key der : List ℕ) → IsHead kind set head → length key ≡ key_len kind set → der ≡ head ++ key
    → is_der kind set der ≡ true
is_der_of kind set head key der is_head sized is =
    let behind : key_behind kind set der ≡ key = last_bytes head key der (key_len kind set) sized is in
    let whole : der ≡ der_of kind set (key_behind kind set der) = is ∙ is_head key sized ∙ ap (der_of kind set) (sym behind) in
    both_true (le-leb (key_len kind set) (length der) (omega (arith, length-append head key, ap length is, sized)))
    ((bytes_eq-Decides der (der_of kind set (key_behind kind set der))).1 whole)

pub record Behind (head der : List ℕ) (size : ℕ) : Type 0 where
  pub key : List ℕ
  pub sized : length key ≡ size
  pub is : der ≡ head ++ key

pub der_parts : (kind : Kind) (set : Set) (head der : List ℕ) → IsHead kind set head → is_der kind set der ≡ true
    → Behind head der (key_len kind set)
der_parts kind set head der is_head passed =
    let halves = and_parts _ _ passed in
    let long : key_len kind set ≤ length der = leb-true _ _ halves.0 in
    let sized : length (key_behind kind set der) ≡ key_len kind set =
    length-drop (length der - key_len kind set) der ∙ omega arith in
    let whole : der ≡ der_of kind set (key_behind kind set der) = (bytes_eq-Decides _ _).0 halves.1 in
    record { key = key_behind kind set der; sized = sized; is = whole ∙ sym (is_head _ sized) }

pub der_behind : (kind : Kind) (set : Set) (head rest der : List ℕ) → IsHead kind set head → der ≡ head ++ rest
    → nat_eq (length rest) (key_len kind set) ≡ is_der kind set der
der_behind kind set head rest der is_head is =
    same_answer _ _
    (λ same. is_der_of kind set head rest der is_head (eqb-true _ _ same) is)
    (λ passed. let found = der_parts kind set head der is_head passed in
    let equal : rest ≡ found.key = append_cancel_left head rest found.key (sym is ∙ found.is) in
    eq-eqb _ _ (ap length equal ∙ found.sized))

pub der_elsewhere : (kind : Kind) (set : Set) (head der : List ℕ) → IsHead kind set head → ((rest : List ℕ) → der ≢ head ++ rest)
    → false ≡ is_der kind set der
der_elsewhere kind set head der is_head none =
    same_answer _ _ (λ failed. cc)
    (λ passed. let found = der_parts kind set head der is_head passed in absurd (none found.key found.is))
