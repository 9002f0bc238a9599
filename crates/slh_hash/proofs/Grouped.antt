-- A row of values that is hashed group by group.
use Rattle.std.proofs.Common.{◌≡◌, ℕ, zero, suc, ◌+◌, ◌-◌, ◌*◌, ◌<◌, ◌≤◌, ◌∙◌, List, [], ◌++◌, length, map, min, slice_index, slice_index_or, take, drop, ap, sym, refl, arith, add-zero, add-suc, append_assoc, append-nil, length-take, length-drop, get_or-take, get_or-drop, take-add}
use Rattle.std.specs.Prelude.{slice_range}
use Rattle.std.proofs.lemmas.List.{drop-take, drop-drop, get_or-map, take-take, take_all}
use Rattle.std.proofs.lemmas.Nat.{mul-le}
use Rattle.std.proofs.lemmas.Slice.{drop-put_mid, take-put_mid}
use borrow.Rule.Slice.PartMut.{put_mid}
use Rattle.sha256_lanes.specs.Sha256.{sha256}
use Rattle.sha2.specs.Sha512.{sha512}
use Rattle.slh_core.specs.Address.{compressed_address}
use Rattle.slh_core.specs.Bytes.{joined, part}
use Rattle.slh_core.proofs.Joins.{drop_later, joined_same, part-joined}
use Rattle.slh_hash.specs.Sha2.{seed_block, tweaked_hash_256, tweaked_hash_512}

-- the digest in a place that isn't past the last
pub digest_of_place : (hash : List ℕ → List ℕ) (m : List ℕ) (len last k : ℕ) (tails digests : List (List ℕ)) (tail : ℕ → List ℕ)
    → digests ≡ map (λ t. hash (m ++ take len t)) tails
    → take len (slice_index_or tails k []) ≡ tail (min k last)
    → k ≤ last → k < length tails
    → slice_index_or digests k [] ≡ hash (m ++ tail k)
digest_of_place hash m len last k tails digests tail made there low below =
    let digest : List ℕ → List ℕ = λ t. hash (m ++ take len t) in
    let place : min k last ≡ k = omega arith in
    ap (λ ds. slice_index_or ds k []) made
    ∙ get_or-map digest tails k [] [] below
    ∙ ap (λ t. hash (m ++ t)) (there ∙ ap tail place)

-- how many numbers a group has
pub length-cut : (nums : List ℕ) (d e : ℕ) → d ≤ e → e ≤ length nums → length (slice_range nums d e) ≡ e - d
length-cut nums d e low high = omega (arith, length-take (e - d) (drop d nums), length-drop d nums)

-- how many bytes a group's values have
pub length-group : (n d r : ℕ) (nums xs : List ℕ) → length xs ≡ length nums * n → d + r ≤ length nums
    → length (slice_range xs (d * n) ((d + r) * n)) ≡ length (slice_range nums d (d + r)) * n
length-group n d r nums xs whole within =
    let fits : (d + r) * n ≤ length nums * n = mul-le (d + r) n (length nums) n within (omega arith) in
    let group : length (slice_range nums d (d + r)) ≡ r = omega (arith, length-take (d + r - d) (drop d nums), length-drop d nums) in
    let size : length (slice_range xs (d * n) ((d + r) * n)) ≡ r * n
    = omega (arith, length-take ((d + r) * n - d * n) (drop (d * n) xs), length-drop (d * n) xs) in
    size ∙ ap (λ k. k * n) (sym group)

-- the first parts, and then the others
pub joined_add : (f : ℕ → List ℕ) (k r : ℕ) → joined f (k + r) ≡ joined f k ++ joined (λ i. f (k + i)) r
unfolding joined
joined_add f k zero = rw (add-zero, append-nil) refl
joined_add f k (suc r) = rw (add-suc, joined_add f k r, append_assoc) refl

-- one group more
pub group_more : (f : ℕ → List ℕ) (n d r : ℕ) (cur made : List ℕ) → (d + r) * n ≤ length cur
    → take (d * n) cur ≡ joined f d → length made ≡ r * n → made ≡ joined (λ i. f (d + i)) r
    → take ((d + r) * n) (put_mid (d * n) ((d + r) * n - d * n) cur made) ≡ joined f (d + r)
group_more f n d r cur made fits front size is =
    let end : (d + r) * n ≡ d * n + length made = omega arith in
    take-put_mid (d * n) ((d + r) * n - d * n) cur made ((d + r) * n) end (omega arith)
    ∙ ap (λ (xs : List ℕ). xs ++ made) front
    ∙ ap (λ (ys : List ℕ). joined f d ++ ys) is
    ∙ sym (joined_add f d r)

-- a part of a group is a part of the whole
pub part_of_group : (n d r i : ℕ) (cur whole : List ℕ) → i < r → drop (d * n) cur ≡ drop (d * n) whole
    → part n (slice_range cur (d * n) ((d + r) * n)) i ≡ part n whole (d + i)
part_of_group n d r i cur whole below same =
    let within : (i + 1) * n ≤ r * n = mul-le (i + 1) n r n (omega arith) (omega arith) in
    let size : ℕ = (d + r) * n - d * n in
    let width : ℕ = (i + 1) * n - i * n in
    let left : size ≡ i * n + (size - i * n) = omega arith in
    let wide : (d + i + 1) * n - (d + i) * n ≡ width = omega arith in
    let place : d * n + i * n ≡ (d + i) * n = omega arith in
    ap (λ s. take width (drop (i * n) (take s (drop (d * n) cur)))) left
    ∙ ap (take width) (drop-take (i * n) (size - i * n) (drop (d * n) cur))
    ∙ take-take width (size - i * n) (drop (i * n) (drop (d * n) cur)) (omega arith)
    ∙ ap (λ (xs : List ℕ). take width (drop (i * n) xs)) same
    ∙ ap (take width) (drop-drop (i * n) (d * n) whole)
    ∙ rw (wide, place) refl

-- and a number of a group is a number of the whole row
pub number_of_group : (d r i : ℕ) (nums : List ℕ) → i < r
    → slice_index (slice_range nums d (d + r)) i ≡ slice_index nums (d + i)
number_of_group d r i nums below =
    get_or-take (d + r - d) (drop d nums) i 0 (omega arith) ∙ get_or-drop d nums i 0

-- where a range of whole parts ends, and how many bytes it has
end_of : (n d e : ℕ) → d ≤ e → e * n ≡ d * n + (e - d) * n
end_of n d e low =
    let r : ℕ = e - d in
    let end : e ≡ d + r = omega arith in
    ap (λ q. q * n) end ∙ omega arith

pub length-parts : (n d e : ℕ) (xs : List ℕ) → d ≤ e → e * n ≤ length xs → length (slice_range xs (d * n) (e * n)) ≡ (e - d) * n
length-parts n d e xs low fits =
    omega (arith, fits, end_of n d e low, length-take (e * n - d * n) (drop (d * n) xs), length-drop (d * n) xs)

pub length-between : (n m d e : ℕ) (out : List ℕ) → n ≡ m → d ≤ e → e * m ≤ length out → length (slice_range out (d * n) (e * n)) ≡ (e - d) * m
length-between n m d e out same low fits =
    ap (λ q. length (slice_range out (d * q) (e * q))) same ∙ length-parts m d e out low fits

-- what is written between two places
pub put_between : (n m d e : ℕ) (cur made : List ℕ) → n ≡ m → d ≤ e → e * m ≤ length cur → length made ≡ (e - d) * m
    → take (e * m) (put_mid (d * n) (e * n - d * n) cur made) ≡ take (d * m) cur ++ made
put_between n m d e cur made same low fits size =
    let end : e * m ≡ d * m + length made = end_of m d e low ∙ ap (λ q. d * m + q) (sym size) in
    ap (λ q. take (e * m) (put_mid (d * q) (e * q - d * q) cur made)) same
    ∙ take-put_mid (d * m) (e * m - d * m) cur made (e * m) end (omega (arith, fits, end))

pub kept_behind : (n m d e : ℕ) (cur made : List ℕ) → n ≡ m → d ≤ e → e * m ≤ length cur → length made ≡ (e - d) * m
    → drop (e * m) (put_mid (d * n) (e * n - d * n) cur made) ≡ drop (e * m) cur
kept_behind n m d e cur made same low fits size =
    let end : e * m ≡ d * m + length made = end_of m d e low ∙ ap (λ q. d * m + q) (sym size) in
    ap (λ q. drop (e * m) (put_mid (d * q) (e * q - d * q) cur made)) same
    ∙ drop-put_mid (d * m) (e * m - d * m) cur made (e * m) (omega (arith, end)) (omega (arith, fits, end)) (omega (arith, end))

-- one group more, from what its calls answer: the cut of the inputs, the digests, and what is written
group_done : (hash : List ℕ → List ℕ → List ℕ) (at : ℕ → List ℕ) (n w v d e : ℕ) (nums cur whole inputs before after : List ℕ) (digests : List (List ℕ))
    → w ≡ v → d ≤ e → e ≤ length nums
    → inputs ≡ slice_range cur (d * w) (e * w) → drop (d * w) cur ≡ drop (d * w) whole
    → ((k : ℕ) → k < length (slice_range nums d e) → slice_index_or digests k [] ≡ hash (at (slice_index (slice_range nums d e) k)) (part w inputs k))
    → take (e * n) after ≡ take (d * n) before ++ joined (λ k. take n (slice_index_or digests k [])) (e - d)
    → take (d * n) before ≡ joined (λ i. take n (hash (at (slice_index nums i)) (part v whole i))) d
    → take (e * n) after ≡ joined (λ i. take n (hash (at (slice_index nums i)) (part v whole i))) e
group_done hash at n w v d e nums cur whole inputs before after digests wide low high cut later made wrote front =
    let f : ℕ → List ℕ = λ i. take n (hash (at (slice_index nums i)) (part v whole i)) in
    let r : ℕ = e - d in
    let end : e ≡ d + r = omega arith in
    let size : length (slice_range nums d e) ≡ r = length-cut nums d e low high in
    let input : (k : ℕ) → k < r → part w inputs k ≡ part v whole (d + k) = λ k below.
    ap (λ xs. part w xs k) (cut ∙ ap (λ q. slice_range cur (d * w) (q * w)) end) ∙ part_of_group w d r k cur whole below later ∙ ap (λ q. part q whole (d + k)) wide in
    let number : (k : ℕ) → k < r → slice_index (slice_range nums d e) k ≡ slice_index nums (d + k) = λ k below.
    ap (λ q. slice_index (slice_range nums d q) k) end ∙ number_of_group d r k nums below in
    let digest : (k : ℕ) → k < r → take n (slice_index_or digests k []) ≡ f (d + k) = λ k below.
    ap (take n) (made k (omega (arith, size)) ∙ ap (λ i. hash (at i) (part w inputs k)) (number k below) ∙ ap (hash (at (slice_index nums (d + k)))) (input k below)) in
    wrote
    ∙ ap (λ xs. xs ++ joined (λ k. take n (slice_index_or digests k [])) r) front
    ∙ ap (λ xs. joined f d ++ xs) (joined_same _ _ r digest)
    ∙ sym (joined_add f d r)
    ∙ ap (joined f) (sym end)

-- by SHA-256
pub group_done_256 : (at : ℕ → List ℕ) (n w v d e : ℕ) (s nums cur whole inputs before after : List ℕ) (digests : List (List ℕ))
    → w ≡ v → d ≤ e → e ≤ length nums
    → inputs ≡ slice_range cur (d * w) (e * w) → drop (d * w) cur ≡ drop (d * w) whole
    → ((k : ℕ) → k < length (slice_range nums d e) → slice_index_or digests k [] ≡ sha256 (seed_block 64 n s ++ (compressed_address (at (slice_index (slice_range nums d e) k)) ++ part w inputs k)))
    → take (e * n) after ≡ take (d * n) before ++ joined (λ k. take n (slice_index_or digests k [])) (e - d)
    → take (d * n) before ≡ joined (λ i. tweaked_hash_256 n s (at (slice_index nums i)) (part v whole i)) d
    → take (e * n) after ≡ joined (λ i. tweaked_hash_256 n s (at (slice_index nums i)) (part v whole i)) e
unfolding tweaked_hash_256
group_done_256 at n w v d e s nums =
    group_done (λ (a x : List ℕ). sha256 (seed_block 64 n s ++ (compressed_address a ++ x))) at n w v d e nums

-- and by SHA-512
pub group_done_512 : (at : ℕ → List ℕ) (n w v d e : ℕ) (s nums cur whole inputs before after : List ℕ) (digests : List (List ℕ))
    → w ≡ v → d ≤ e → e ≤ length nums
    → inputs ≡ slice_range cur (d * w) (e * w) → drop (d * w) cur ≡ drop (d * w) whole
    → ((k : ℕ) → k < length (slice_range nums d e) → slice_index_or digests k [] ≡ sha512 (seed_block 128 n s ++ (compressed_address (at (slice_index (slice_range nums d e) k)) ++ part w inputs k)))
    → take (e * n) after ≡ take (d * n) before ++ joined (λ k. take n (slice_index_or digests k [])) (e - d)
    → take (d * n) before ≡ joined (λ i. tweaked_hash_512 n s (at (slice_index nums i)) (part v whole i)) d
    → take (e * n) after ≡ joined (λ i. tweaked_hash_512 n s (at (slice_index nums i)) (part v whole i)) e
unfolding tweaked_hash_512
group_done_512 at n w v d e s nums =
    group_done (λ (a x : List ℕ). sha512 (seed_block 128 n s ++ (compressed_address a ++ x))) at n w v d e nums

-- what a group leaves of the values
pub group_left : (n d e : ℕ) (before after whole : List ℕ) → d ≤ e → drop (e * n) after ≡ drop (e * n) before
    → drop (d * n) before ≡ drop (d * n) whole → drop (e * n) after ≡ drop (e * n) whole
group_left n d e before after whole low kept later =
    kept ∙ drop_later before whole (d * n) (e * n) (mul-le d n e n low (omega arith)) later

-- a group's bytes are within all
pub group_within : (n w e count len : ℕ) → w ≡ n → e ≤ count → len ≡ count * n → e * w ≤ len
group_within n w e count len same high size =
    omega (arith, mul-le e w count w high (omega arith), size, ap (λ q. count * q) same)

-- before the first group
pub none_done : (n : ℕ) (out : List ℕ) → take (0 * n) out ≡ []
none_done n out = let none : 0 * n ≡ 0 = omega arith in ap (λ q. take q out) none

-- and all groups are the whole
pub groups_done : (f : ℕ → List ℕ) (n d count : ℕ) (out : List ℕ) → take (d * n) out ≡ joined f d → d ≤ count → count ≤ d
    → length out ≡ count * n → out ≡ joined f count
groups_done f n d count out front low high size =
    let all : d ≡ count = omega arith in
    let whole : length out ≡ d * n = size ∙ ap (λ q. q * n) (sym all) in
    sym (take_all (d * n) out (omega (arith, whole))) ∙ front ∙ ap (joined f) all

-- the hashes of one value at many addresses
pub hashes_of_repeated : (F : ℕ → List ℕ → List ℕ) (n count : ℕ) (v filled out : List ℕ) → length v ≡ n
    → filled ≡ joined (λ (k : ℕ). v) count → out ≡ joined (λ k. F k (part n filled k)) count → out ≡ joined (λ k. F k v) count
hashes_of_repeated F n count v filled out size all made =
    made ∙ joined_same _ _ count (λ k below.
    ap (F k) (ap (λ (xs : List ℕ). part n xs k) all ∙ part-joined (λ (i : ℕ). v) n count k (λ i. size) below))

-- a part of twice the size is two parts
part_of_two : (n k : ℕ) (xs : List ℕ) → part (2 * n) xs k ≡ part n xs (2 * k) ++ part n xs (2 * k + 1)
part_of_two n k xs =
    let both : (k + 1) * (2 * n) - k * (2 * n) ≡ n + n = omega arith in
    let left : (2 * k + 1) * n - 2 * k * n ≡ n = omega arith in
    let right : (2 * k + 1 + 1) * n - (2 * k + 1) * n ≡ n = omega arith in
    let from : k * (2 * n) ≡ 2 * k * n = omega arith in
    let next : 2 * k * n + n ≡ (2 * k + 1) * n = omega arith in
    ap (λ w. take w (drop (k * (2 * n)) xs)) both
    ∙ ap (λ p. take (n + n) (drop p xs)) from
    ∙ take-add n n (drop (2 * k * n) xs)
    ∙ ap (λ ys. take n (drop (2 * k * n) xs) ++ take n ys) (drop-drop n (2 * k * n) xs ∙ ap (λ p. drop p xs) next)
    ∙ rw (left, right) refl

-- the hashes of pairs are those of a left and a right value
pub hashes_of_pairs : (F : ℕ → List ℕ → List ℕ) (n count : ℕ) (pairs out : List ℕ)
    → out ≡ joined (λ k. F k (part (2 * n) pairs k)) count
    → out ≡ joined (λ k. F k (part n pairs (2 * k) ++ part n pairs (2 * k + 1))) count
hashes_of_pairs F n count pairs out made =
    made ∙ joined_same _ _ count (λ k below. ap (F k) (part_of_two n k pairs))
