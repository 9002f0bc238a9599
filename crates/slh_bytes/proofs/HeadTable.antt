-- The heads of keys in DER, byte by byte, and which set one is of.
use Rattle.std.proofs.Common.{◌≡◌, ℕ, ◌<◌, zero, suc, nat_lt, Bool, true, false, List, [], ◌∷◌, ◌++◌, length, get_or, slice_index, Option, None, Some, refl, sym, ap, ◌∙◌, cond, if◌then◌else◌, ◌⊎◌, inl, inr}
use Rattle.std.specs.Bool.{◌==◌}
use Rattle.std.specs.List.{find, list_all}
use Rattle.std.proofs.lemmas.Bool.{and_parts, ltb-true}
use Rattle.base64.specs.GeneralPurpose.{IsBytes}
use Rattle.slh_sets.specs.Sets.{all_sets}
use Rattle.slh_sets.specs.declared.set.Set.{Set}
use Rattle.slh_sets.specs.declared.set.Set.TheVariants.{Sha2_128s, Sha2_128f}
use Rattle.slh_sets.specs.declared.set.Set.TheVariants.{Sha2_192s, Sha2_192f}
use Rattle.slh_sets.specs.declared.set.Set.TheVariants.{Sha2_256s, Sha2_256f}
use Rattle.slh_bytes.specs.Heads.{der_of, key_len, last_arc}
use Rattle.slh_bytes.specs.declared.key.Kind.{Kind}
use Rattle.slh_bytes.specs.declared.key.Kind.TheVariants.{Signing, Verifying}

abbrev pub head_at : Kind → Set → List ℕ
head_at Signing Sha2_128s =
    0x30 ∷ 0x52 ∷ 0x02 ∷ 0x01 ∷ 0x00 ∷ 0x30 ∷ 0x0b ∷ 0x06 ∷ 0x09 ∷ 0x60 ∷ 0x86 ∷ 0x48
    ∷ 0x01 ∷ 0x65 ∷ 0x03 ∷ 0x04 ∷ 0x03 ∷ 0x14 ∷ 0x04 ∷ 0x40 ∷ []
head_at Signing Sha2_128f =
    0x30 ∷ 0x52 ∷ 0x02 ∷ 0x01 ∷ 0x00 ∷ 0x30 ∷ 0x0b ∷ 0x06 ∷ 0x09 ∷ 0x60 ∷ 0x86 ∷ 0x48
    ∷ 0x01 ∷ 0x65 ∷ 0x03 ∷ 0x04 ∷ 0x03 ∷ 0x15 ∷ 0x04 ∷ 0x40 ∷ []
head_at Signing Sha2_192s =
    0x30 ∷ 0x72 ∷ 0x02 ∷ 0x01 ∷ 0x00 ∷ 0x30 ∷ 0x0b ∷ 0x06 ∷ 0x09 ∷ 0x60 ∷ 0x86 ∷ 0x48
    ∷ 0x01 ∷ 0x65 ∷ 0x03 ∷ 0x04 ∷ 0x03 ∷ 0x16 ∷ 0x04 ∷ 0x60 ∷ []
head_at Signing Sha2_192f =
    0x30 ∷ 0x72 ∷ 0x02 ∷ 0x01 ∷ 0x00 ∷ 0x30 ∷ 0x0b ∷ 0x06 ∷ 0x09 ∷ 0x60 ∷ 0x86 ∷ 0x48
    ∷ 0x01 ∷ 0x65 ∷ 0x03 ∷ 0x04 ∷ 0x03 ∷ 0x17 ∷ 0x04 ∷ 0x60 ∷ []
head_at Signing Sha2_256s =
    0x30 ∷ 0x81 ∷ 0x93 ∷ 0x02 ∷ 0x01 ∷ 0x00 ∷ 0x30 ∷ 0x0b ∷ 0x06 ∷ 0x09 ∷ 0x60 ∷ 0x86
    ∷ 0x48 ∷ 0x01 ∷ 0x65 ∷ 0x03 ∷ 0x04 ∷ 0x03 ∷ 0x18 ∷ 0x04 ∷ 0x81 ∷ 0x80 ∷ []
head_at Signing Sha2_256f =
    0x30 ∷ 0x81 ∷ 0x93 ∷ 0x02 ∷ 0x01 ∷ 0x00 ∷ 0x30 ∷ 0x0b ∷ 0x06 ∷ 0x09 ∷ 0x60 ∷ 0x86
    ∷ 0x48 ∷ 0x01 ∷ 0x65 ∷ 0x03 ∷ 0x04 ∷ 0x03 ∷ 0x19 ∷ 0x04 ∷ 0x81 ∷ 0x80 ∷ []
head_at Verifying Sha2_128s =
    0x30 ∷ 0x30 ∷ 0x30 ∷ 0x0b ∷ 0x06 ∷ 0x09 ∷ 0x60 ∷ 0x86 ∷ 0x48 ∷ 0x01 ∷ 0x65 ∷ 0x03
    ∷ 0x04 ∷ 0x03 ∷ 0x14 ∷ 0x03 ∷ 0x21 ∷ 0x00 ∷ []
head_at Verifying Sha2_128f =
    0x30 ∷ 0x30 ∷ 0x30 ∷ 0x0b ∷ 0x06 ∷ 0x09 ∷ 0x60 ∷ 0x86 ∷ 0x48 ∷ 0x01 ∷ 0x65 ∷ 0x03
    ∷ 0x04 ∷ 0x03 ∷ 0x15 ∷ 0x03 ∷ 0x21 ∷ 0x00 ∷ []
head_at Verifying Sha2_192s =
    0x30 ∷ 0x40 ∷ 0x30 ∷ 0x0b ∷ 0x06 ∷ 0x09 ∷ 0x60 ∷ 0x86 ∷ 0x48 ∷ 0x01 ∷ 0x65 ∷ 0x03
    ∷ 0x04 ∷ 0x03 ∷ 0x16 ∷ 0x03 ∷ 0x31 ∷ 0x00 ∷ []
head_at Verifying Sha2_192f =
    0x30 ∷ 0x40 ∷ 0x30 ∷ 0x0b ∷ 0x06 ∷ 0x09 ∷ 0x60 ∷ 0x86 ∷ 0x48 ∷ 0x01 ∷ 0x65 ∷ 0x03
    ∷ 0x04 ∷ 0x03 ∷ 0x17 ∷ 0x03 ∷ 0x31 ∷ 0x00 ∷ []
head_at Verifying Sha2_256s =
    0x30 ∷ 0x50 ∷ 0x30 ∷ 0x0b ∷ 0x06 ∷ 0x09 ∷ 0x60 ∷ 0x86 ∷ 0x48 ∷ 0x01 ∷ 0x65 ∷ 0x03
    ∷ 0x04 ∷ 0x03 ∷ 0x18 ∷ 0x03 ∷ 0x41 ∷ 0x00 ∷ []
head_at Verifying Sha2_256f =
    0x30 ∷ 0x50 ∷ 0x30 ∷ 0x0b ∷ 0x06 ∷ 0x09 ∷ 0x60 ∷ 0x86 ∷ 0x48 ∷ 0x01 ∷ 0x65 ∷ 0x03
    ∷ 0x04 ∷ 0x03 ∷ 0x19 ∷ 0x03 ∷ 0x41 ∷ 0x00 ∷ []

pub head_at_is : (kind : Kind) (set : Set) (key : List ℕ) → length key ≡ key_len kind set → head_at kind set ++ key ≡ der_of kind set key
head_at_is Signing Sha2_128s key sized = simp sized refl
head_at_is Signing Sha2_128f key sized = simp sized refl
head_at_is Signing Sha2_192s key sized = simp sized refl
head_at_is Signing Sha2_192f key sized = simp sized refl
head_at_is Signing Sha2_256s key sized = simp sized refl
head_at_is Signing Sha2_256f key sized = simp sized refl
head_at_is Verifying Sha2_128s key sized = simp sized refl
head_at_is Verifying Sha2_128f key sized = simp sized refl
head_at_is Verifying Sha2_192s key sized = simp sized refl
head_at_is Verifying Sha2_192f key sized = simp sized refl
head_at_is Verifying Sha2_256s key sized = simp sized refl
head_at_is Verifying Sha2_256f key sized = simp sized refl

-- where the last number of the object identifier stands
abbrev arc_in : Kind → List ℕ → ℕ
arc_in Signing der = if nat_lt (get_or der 1 0) 128 then get_or der 17 0 else get_or der 18 0
arc_in Verifying der = get_or der 14 0

arc_of_head : (kind : Kind) (set : Set) (key : List ℕ) → arc_in kind (head_at kind set ++ key) ≡ last_arc set
arc_of_head Signing Sha2_128s key = refl
arc_of_head Signing Sha2_128f key = refl
arc_of_head Signing Sha2_192s key = refl
arc_of_head Signing Sha2_192f key = refl
arc_of_head Signing Sha2_256s key = refl
arc_of_head Signing Sha2_256f key = refl
arc_of_head Verifying Sha2_128s key = refl
arc_of_head Verifying Sha2_128f key = refl
arc_of_head Verifying Sha2_192s key = refl
arc_of_head Verifying Sha2_192f key = refl
arc_of_head Verifying Sha2_256s key = refl
arc_of_head Verifying Sha2_256f key = refl

abbrev set_with : ℕ → Option Set
set_with arc =
    if arc == 20 then Some Sha2_128s else if arc == 21 then Some Sha2_128f else if arc == 22 then Some Sha2_192s
    else if arc == 23 then Some Sha2_192f else if arc == 24 then Some Sha2_256s else if arc == 25 then Some Sha2_256f else None

set_of_arc : (set : Set) → set_with (last_arc set) ≡ Some set
set_of_arc Sha2_128s = refl
set_of_arc Sha2_128f = refl
set_of_arc Sha2_192s = refl
set_of_arc Sha2_192f = refl
set_of_arc Sha2_256s = refl
set_of_arc Sha2_256f = refl

pub same_set : (kind : Kind) (set other : Set) (der key behind : List ℕ) → der ≡ head_at kind set ++ key → der ≡ head_at kind other ++ behind
    → other ≡ set
same_set kind set other der key behind is also =
    let found : Some other ≡ Some set =
    sym (set_of_arc other) ∙ ap set_with (sym (arc_of_head kind other behind)) ∙ ap (λ (d : List ℕ). set_with (arc_in kind d)) (sym also ∙ is)
    ∙ ap set_with (arc_of_head kind set key) ∙ set_of_arc set in
    cc found

abbrev Has : Set → List Set → Type 0
Has x [] = ⊥
Has x (y ∷ ys) = (y ≡ x) ⊎ Has x ys

found_alone : (p : Set → Bool) (x : Set) → p x ≡ true → ((y : Set) → p y ≡ true → y ≡ x) → (ys : List Set) → Has x ys → find p ys ≡ Some x
found_alone p x passes only [] has = absurd has
found_alone p x passes only (y ∷ ys) has =
    (elim (p y) as (λ b. p y ≡ b → cond b (Some y) (find p ys) ≡ Some x) [
      | true ↦ λ e. ap Some (only y e)
      | false ↦ λ e. elim has [
        | inl same ↦ let bad : true ≡ false = sym passes ∙ ap p (sym same) ∙ e in cc bad
        | inr later ↦ found_alone p x passes only ys later
      ]
    ]) refl

has_all : (set : Set) → Has set all_sets
has_all Sha2_128s = inl refl
has_all Sha2_128f = inr (inl refl)
has_all Sha2_192s = inr (inr (inl refl))
has_all Sha2_192f = inr (inr (inr (inl refl)))
has_all Sha2_256s = inr (inr (inr (inr (inl refl))))
has_all Sha2_256f = inr (inr (inr (inr (inr (inl refl)))))

pub found_in_all : (p : Set → Bool) (x : Set) → p x ≡ true → ((y : Set) → p y ≡ true → y ≡ x) → find p all_sets ≡ Some x
found_in_all p x passes only = found_alone p x passes only all_sets (has_all x)

abbrev pub are_bytes : List ℕ → Bool
are_bytes = list_all (λ b. nat_lt b 256)

bytes_append : (front : List ℕ) → are_bytes front ≡ true → (back : List ℕ) → IsBytes back → (i : ℕ) → slice_index (front ++ back) i < 256
bytes_append [] h back bytes i = bytes i
bytes_append (x ∷ front) h back bytes zero = ltb-true x 256 (and_parts _ _ h).0
bytes_append (x ∷ front) h back bytes (suc i) = bytes_append front (and_parts _ _ h).1 back bytes i

head_bytes : (kind : Kind) (set : Set) → are_bytes (head_at kind set) ≡ true
head_bytes Signing Sha2_128s = refl
head_bytes Signing Sha2_128f = refl
head_bytes Signing Sha2_192s = refl
head_bytes Signing Sha2_192f = refl
head_bytes Signing Sha2_256s = refl
head_bytes Signing Sha2_256f = refl
head_bytes Verifying Sha2_128s = refl
head_bytes Verifying Sha2_128f = refl
head_bytes Verifying Sha2_192s = refl
head_bytes Verifying Sha2_192f = refl
head_bytes Verifying Sha2_256s = refl
head_bytes Verifying Sha2_256f = refl

pub der_bytes : (kind : Kind) (set : Set) (key : List ℕ) → IsBytes key → IsBytes (head_at kind set ++ key)
der_bytes kind set key bytes i = bytes_append (head_at kind set) (head_bytes kind set) key bytes i
