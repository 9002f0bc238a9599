-- Numbers in base 128, one after another.
use Rattle.std.proofs.Common.{◌≡◌, ℕ, ◌+◌, ◌<◌, ◌≤◌, List, [], ◌∷◌, ◌++◌, length, take, drop, slice_index, arith, refl, ap, sym, ◌∙◌, append_assoc, length-append}
use Rattle.std.proofs.lemmas.List.{append-nil, take-append-drop, take_more}
use Rattle.digest_core.specs.Oid.{base_128, base_128_all}

base_128_all-append : (xs ys : List ℕ) → base_128_all (xs ++ ys) ≡ base_128_all xs ++ base_128_all ys
base_128_all-append [] ys = refl
base_128_all-append (x ∷ xs) ys = rw (base_128_all-append xs ys, append_assoc (base_128 x)) refl

-- one number more
pub base_128_all_more : (ns : List ℕ) (i : ℕ) → i < length ns → base_128_all (take (i + 1) ns) ≡ base_128_all (take i ns) ++ base_128 (slice_index ns i)
base_128_all_more ns i inside = rw (take_more ns i 0 inside, base_128_all-append, append-nil) refl

-- a part has no more octets than the whole
pub length-base_128_all_part : (ns : List ℕ) (i : ℕ) → length (base_128_all (take i ns)) ≤ length (base_128_all ns)
length-base_128_all_part ns i =
    let parts : base_128_all ns ≡ base_128_all (take i ns) ++ base_128_all (drop i ns)
    = sym (ap base_128_all (take-append-drop i ns)) ∙ base_128_all-append (take i ns) (drop i ns) in
    omega (arith, ap length parts, length-append (base_128_all (take i ns)) (base_128_all (drop i ns)))
