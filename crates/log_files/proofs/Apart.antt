-- The files of a log that grows have names of their own.
use Rattle.std.proofs.Common.{◌≡◌, ◌≢◌, ◌∙◌, ◌⊎◌, ◌+◌, ◌-◌, ◌*◌, ◌/◌, ◌%◌, ◌<◌, ◌≤◌, ◌^◌, ℕ, zero, suc, Bool, true, false, List, [], ◌∷◌, ◌++◌, refl, sym, ap, subst, arith, inl, inr, lit<, lit≤}
use Rattle.std.specs.Prelude.{◌==◌, if◌then◌else◌}
use Rattle.std.specs.List.{AllByRecursion}
use Rattle.std.proofs.lemmas.Bool.{true≢false}
use Rattle.std.proofs.lemmas.Bool.Decides.{Decides-eqb}
use Rattle.std.proofs.lemmas.List.{map-append}
use Rattle.std.proofs.lemmas.Nat.{div-mul-add, le-div, pow-add, pow_pos}
use Rattle.std.proofs.Math.Nat.{div-le_self, div-mul-le_self, mul-div_cancel, mul_assoc, suc-mul}
use Rattle.log_tiles.specs.Names.{bundle_path, tile_path}
use Rattle.log_tiles.specs.Tiles.{full_levels, full_within, hash_count, last_bytes}
use Rattle.log_files.specs.Appending.{Named, bundle_file, full_bundle, of_levels, partial_bundle, partial_files, tile_files}
use Rattle.log_files.specs.Names.{AreSuch, Differ, IsBundleName, IsFullBundle, IsFullTile, IsName, IsTileName, names_of}
use Rattle.log_files.proofs.Levels.{few}
use Rattle.log_files.proofs.TileNames.{bundles_differ, kinds_differ, tiles_differ}
use Rattle.merkle_tree.specs.Hashes.{HashFunction}

-- ---- lists

all_more : (P Q : List ℕ → Type 0) (xs : List (List ℕ)) → ((x : List ℕ) → P x → Q x) → AllByRecursion P xs
    → AllByRecursion Q xs
all_more P Q [] more all = tt
all_more P Q (x ∷ xs) more all = (more x all.0, all_more P Q xs more all.1)

all_append : (P : List ℕ → Type 0) (xs ys : List (List ℕ)) → AllByRecursion P xs → AllByRecursion P ys
    → AllByRecursion P (xs ++ ys)
all_append P [] ys front back = back
all_append P (x ∷ xs) ys front back = (front.0, all_append P xs ys front.1 back)

-- what two lists have differs where each of the one differs from each of the other
differ_append : (P Q : List ℕ → Type 0) (xs ys : List (List ℕ)) → ((x y : List ℕ) → P x → Q y → x ≢ y)
    → AllByRecursion P xs → AllByRecursion Q ys → Differ xs → Differ ys → Differ (xs ++ ys)
differ_append P Q [] ys apart ps qs front back = back
differ_append P Q (x ∷ xs) ys apart ps qs front back = (
  all_append (λ other. x ≢ other) xs ys front.0 (all_more Q (λ other. x ≢ other) ys (λ y q. apart x y ps.0 q) qs),
  differ_append P Q xs ys apart ps.1 qs front.1 back,
)

-- ---- what the last entry made full

divides_on : (k l m : ℕ) → ((i : ℕ) → i < full_within k (m / 256) → (t : ℕ) × (m / 256 ≡ t * 256 * 2 ^ (8 * i)))
    → m % 256 ≡ 0 → l < 1 + full_within k (m / 256) → (t : ℕ) × (m ≡ t * 256 * 2 ^ (8 * l))
divides_on k zero m deeper whole low = (m / 256, omega (arith, whole))
divides_on k (suc l) m deeper whole low =
    let below = deeper l (omega (arith, low)) in
    let times : ℕ = below.0 in
    let exponent : 8 * suc l ≡ 8 * l + 8 = omega arith in
    let power : 2 ^ (8 * suc l) ≡ 2 ^ (8 * l) * 256 = ap (λ (e : ℕ). 2 ^ e) exponent ∙ pow-add 2 (8 * l) 8 in
    let count : m ≡ m / 256 * 256 = omega (arith, whole) in (
      times,
      count ∙ ap (λ (q : ℕ). q * 256) below.1 ∙ mul_assoc (times * 256) (2 ^ (8 * l)) 256
          ∙ ap (λ (p : ℕ). times * 256 * p) (sym power),
    )

divides : (k l m : ℕ) → l < full_within k m → (t : ℕ) × (m ≡ t * 256 * 2 ^ (8 * l))
unfolding full_within
divides zero l m low = absurd (omega (arith, low))
divides (suc k) l m low =
    elim (m % 256 == 0) as (λ (b : Bool). (m % 256 == 0) ≡ b → l < (if b then 1 + full_within k (m / 256) else 0)
    → (t : ℕ) × (m ≡ t * 256 * 2 ^ (8 * l))) [
      | true ↦ λ is low. divides_on k l m (λ i. divides k i (m / 256)) ((Decides-eqb (m % 256) 0).0 is) low
      | false ↦ λ is low. absurd (omega (arith, low))
    ] refl low

-- so many runs of 256 are full of so many things each, and one was missing before
pub record IsTurn (count size times : ℕ) : Type 0 where
  pub some : 0 < times
  pub now : (count + 1) / size ≡ times * 256
  pub before : count / size / 256 ≡ times - 1

one_before : (count size s : ℕ) → 0 < size → count + 1 ≡ suc s * 256 * size → count / size ≡ s * 256 + 255
one_before count size s some is =
    let a : ℕ = s * 256 + 255 in
    let turns : suc s * 256 ≡ suc a = omega arith in
    let all : count + 1 ≡ a * size + size = is ∙ ap (λ (t : ℕ). t * size) turns ∙ suc-mul a size in
    let count_is : count ≡ a * size + (size - 1) = omega (arith, all, some) in
    ap (λ (n : ℕ). n / size) count_is ∙ div-mul-add a size (size - 1) (omega (arith, some))

turn : (count size times : ℕ) → 0 < size → count + 1 ≡ times * 256 * size → IsTurn count size times
turn count size zero some is = absurd (omega (arith, is))
turn count size (suc s) some is = record {
  some = omega arith;
  now = ap (λ (n : ℕ). n / size) is ∙ mul-div_cancel (suc s * 256) some;
  before = ap (λ (n : ℕ). n / 256) (one_before count size s some is) ∙ omega arith;
}

pub filled : (level count : ℕ) → level < full_levels (count + 1) → (times : ℕ) × IsTurn count (2 ^ (8 * level)) times
filled level count low =
    let d = divides 7 level (count + 1) low in
    (d.0, turn count (2 ^ (8 * level)) d.0 (pow_pos (8 * level)) d.1)

-- ---- names that are put behind others

-- files behind others, whose names differ from theirs
put_behind : (P Q R : List ℕ → Type 0) (xs ys : List Named) → ((x : List ℕ) → P x → R x) → ((y : List ℕ) → Q y → R y)
    → ((x y : List ℕ) → P x → Q y → x ≢ y) → AreSuch P xs → AreSuch Q ys → AreSuch R (xs ++ ys)
put_behind P Q R xs ys more other apart front back =
    let joined : names_of xs ++ names_of ys ≡ names_of (xs ++ ys) = sym (map-append (λ file. file.name) xs ys) in
    record {
      such = subst (λ (l : List (List ℕ)). AllByRecursion R l) joined
          (all_append R (names_of xs) (names_of ys) (all_more P R (names_of xs) more front.such) (all_more Q R (names_of ys) other back.such));
      differ = subst (λ (l : List (List ℕ)). Differ l) joined
          (differ_append P Q (names_of xs) (names_of ys) apart front.such back.such front.differ back.differ);
    }

pub no_files : (P : List ℕ → Type 0) → AreSuch P []
no_files P = record { such = tt; differ = tt }

one_file : (P : List ℕ → Type 0) (file : Named) → P file.name → AreSuch P (file ∷ [])
one_file P file is = record { such = (is, tt); differ = (tt, tt) }

-- ---- bundles

same_bundle : (i j w v : ℕ) → i ≡ j → w ≡ v → bundle_path i w ≡ bundle_path j v
same_bundle i j w v index width = ap (λ (k : ℕ). bundle_path k w) index ∙ ap (bundle_path j) width

-- the bundle that one more entry makes full
IsNewBundle : ℕ → List ℕ → Type 0
IsNewBundle count name = ((count + 1) % 256 ≡ 0) × (name ≡ bundle_path (count / 256) 256)

new_bundle : (count : ℕ) (bytes : List ℕ) (b : Bool) → ((count + 1) % 256 == 0) ≡ b
    → AreSuch (IsNewBundle count) (if b then bundle_file (count + 1) bytes ∷ [] else [])
unfolding IsNewBundle
new_bundle count bytes true is =
    let whole : (count + 1) % 256 ≡ 0 = (Decides-eqb ((count + 1) % 256) 0).0 is in
    one_file (IsNewBundle count) (bundle_file (count + 1) bytes) (
      whole,
      same_bundle ((count + 1 - 1) / 256) (count / 256) ((count + 1 - 1) % 256 + 1) 256 (omega arith) (omega (arith, whole)),
    )
new_bundle count bytes false is = no_files (IsNewBundle count)

pub bundle_pushed : (count : ℕ) (bundles : List Named) (bytes : List ℕ) → count + 1 < 2 ^ 64 → AreSuch (IsFullBundle count) bundles
    → AreSuch (IsFullBundle (count + 1)) (bundles ++ full_bundle (count + 1) bytes)
unfolding IsNewBundle
bundle_pushed count bundles bytes low are =
    put_behind (IsFullBundle count) (IsNewBundle count) (IsFullBundle (count + 1)) bundles (full_bundle (count + 1) bytes)
    (λ x p. (p.0, omega (arith, p.1), p.2))
    (λ y q. (count / 256, omega (arith, q.0), q.1))
    (λ x y p q same.
    let index = (bundles_differ p.0 256 (count / 256) 256 (omega (arith, p.1, low)) (omega (arith, low)) (lit< tt) (lit< tt)
    (sym p.2 ∙ same ∙ q.1)).0 in
    absurd (omega (arith, index, p.1)))
    are (new_bundle count bytes ((count + 1) % 256 == 0) refl)

-- ---- tiles

same_tile : (level i j w v : ℕ) → i ≡ j → w ≡ v → tile_path level i w ≡ tile_path level j v
same_tile level i j w v index width =
    ap (λ (k : ℕ). tile_path level k w) index ∙ ap (tile_path level j) width

-- a tile of the lowest k levels that one more entry makes full
IsNewTile : ℕ → ℕ → List ℕ → Type 0
IsNewTile count k name = (level : ℕ) × (level < k) × (name ≡ tile_path level (hash_count level count / 256) 256)

-- the one of level k
IsTileAt : ℕ → ℕ → List ℕ → Type 0
IsTileAt count k name = name ≡ tile_path k (hash_count k count / 256) 256

new_tile : (H : HashFunction) (count k : ℕ) (q : List (List ℕ)) (b : Bool) → (hash_count k (count + 1) == 0) ≡ b
    → (times : ℕ) → IsTurn count (2 ^ (8 * k)) times
    → AreSuch (IsTileAt count k)
    (let c = hash_count k (count + 1) in
    if b then [] else record { name = tile_path k ((c - 1) / 256) ((c - 1) % 256 + 1); bytes = last_bytes H k q } ∷ [])
unfolding IsTileAt
new_tile H count k q true is times turn = no_files (IsTileAt count k)
new_tile H count k q false is times turn =
    let c : ℕ = hash_count k (count + 1) in
    let now : c ≡ times * 256 = turn.now in
    let index : (c - 1) / 256 ≡ times - 1 = omega (arith, now, turn.some) in
    one_file (IsTileAt count k) _
    (same_tile k ((c - 1) / 256) (hash_count k count / 256) ((c - 1) % 256 + 1) 256 (index ∙ sym turn.before)
    (omega (arith, now, turn.some)))

small : (count size : ℕ) → count < 2 ^ 64 → count / size / 256 < 2 ^ 64
small count size low = omega (arith, div-le_self count size, div-le_self (count / size) 256, low)

new_tiles : (H : HashFunction) (count : ℕ) (q : List (List ℕ)) (k : ℕ) → k ≤ full_levels (count + 1) → count + 1 < 2 ^ 64
    → AreSuch (IsNewTile count k) (of_levels (tile_files H (count + 1) q) k)
unfolding of_levels IsNewTile IsTileAt
new_tiles H count q zero within low = no_files (IsNewTile count zero)
new_tiles H count q (suc k) within low =
    let turn = filled k count (omega (arith, within)) in
    let few_levels = few 7 (count + 1) in
    put_behind (IsNewTile count k) (IsTileAt count k) (IsNewTile count (suc k)) (of_levels (tile_files H (count + 1) q) k) (tile_files H (count + 1) q k)
    (λ x p. (p.0, omega (arith, p.1), p.2))
    (λ y is. (k, omega arith, is))
    (λ x y p is same.
    let level = (tiles_differ p.0 (hash_count p.0 count / 256) 256 k (hash_count k count / 256) 256
    (omega (arith, p.1, within, few_levels)) (omega (arith, within, few_levels))
    (small count (2 ^ (8 * p.0)) (omega (arith, low))) (small count (2 ^ (8 * k)) (omega (arith, low))) (lit< tt) (lit< tt)
    (sym p.2 ∙ same ∙ is)).0 in
    absurd (omega (arith, level, p.1)))
    (new_tiles H count q k (omega (arith, within)) low)
    (new_tile H count k q (hash_count k (count + 1) == 0) refl turn.0 turn.1)

-- there are no fewer hashes of a level with one more entry
rises : (count size : ℕ) → 0 < size → count / size ≤ (count + 1) / size
rises count size some = le-div (count / size) (count + 1) size some (omega (arith, div-mul-le_self count size))

pub tile_pushed : (H : HashFunction) (count : ℕ) (tiles : List Named) (q : List (List ℕ)) → count + 1 < 2 ^ 64
    → AreSuch (IsFullTile count) tiles
    → AreSuch (IsFullTile (count + 1)) (tiles ++ of_levels (tile_files H (count + 1) q) (full_levels (count + 1)))
unfolding IsNewTile
tile_pushed H count tiles q low are =
    let k : ℕ = full_levels (count + 1) in
    let few_levels = few 7 (count + 1) in
    put_behind (IsFullTile count) (IsNewTile count k) (IsFullTile (count + 1)) tiles (of_levels (tile_files H (count + 1) q) k)
    (λ x p. (p.0, p.1, p.2, omega (arith, p.3, rises count (2 ^ (8 * p.0)) (pow_pos (8 * p.0))), p.4))
    (λ y is. let turn = filled is.0 count is.1 in
    (is.0, hash_count is.0 count / 256, omega (arith, is.1, few_levels), omega (arith, turn.1.some, turn.1.now, turn.1.before), is.2))
    (λ x y p is same.
    let both = tiles_differ p.0 p.1 256 is.0 (hash_count is.0 count / 256) 256
    (omega (arith, p.2)) (omega (arith, is.1, few_levels))
    (omega (arith, p.3, small count (2 ^ (8 * p.0)) (omega (arith, low)))) (small count (2 ^ (8 * is.0)) (omega (arith, low))) (lit< tt) (lit< tt)
    (sym p.4 ∙ same ∙ is.2) in
    let there : p.1 < hash_count is.0 count / 256 = subst (λ (l : ℕ). p.1 < hash_count l count / 256) both.0 p.3 in
    absurd (omega (arith, both.1, there)))
    are (new_tiles H count q k (omega arith) low)

-- ---- what isn't full

cases_zero : (n : ℕ) → (n ≡ 0) ⊎ (0 < n)
cases_zero zero = inl refl
cases_zero (suc n) = inr (omega arith)

partial_width : (count : ℕ) → (count % 256 ≡ 0 → ⊥) → (count - 1) % 256 + 1 < 256
partial_width count some = elim (cases_zero (count % 256)) [
  | inl none ↦ absurd (some none)
  | inr few ↦ omega (arith, few)
]

-- the last bundle, whose width is that of no full one
IsLastBundle : ℕ → List ℕ → Type 0
IsLastBundle count name = (width : ℕ) × (width < 256) × (name ≡ bundle_path ((count - 1) / 256) width)

last_bundle : (count : ℕ) (bytes : List ℕ) (b : Bool) → (count % 256 == 0) ≡ b
    → AreSuch (IsLastBundle count) (if b then [] else bundle_file count bytes ∷ [])
unfolding IsLastBundle
last_bundle count bytes true is = no_files (IsLastBundle count)
last_bundle count bytes false is =
    let some : count % 256 ≡ 0 → ⊥ = λ none. true≢false (sym ((Decides-eqb (count % 256) 0).1 none) ∙ is) in
    one_file (IsLastBundle count) (bundle_file count bytes) ((count - 1) % 256 + 1, partial_width count some, refl)

bundles_finished : (count : ℕ) (bundles : List Named) (bytes : List ℕ) → count < 2 ^ 64 → AreSuch (IsFullBundle count) bundles
    → AreSuch IsBundleName (bundles ++ partial_bundle count bytes)
unfolding IsLastBundle
bundles_finished count bundles bytes low are =
    put_behind (IsFullBundle count) (IsLastBundle count) IsBundleName bundles (partial_bundle count bytes)
    (λ x p. (p.0, 256, lit≤ tt, p.2))
    (λ y q. ((count - 1) / 256, q.0, omega (arith, q.1), q.2))
    (λ x y p q same.
    let width = (bundles_differ p.0 256 ((count - 1) / 256) q.0 (omega (arith, p.1, low)) (omega (arith, low)) (lit< tt) (omega (arith, q.1))
    (sym p.2 ∙ same ∙ q.2)).1 in
    absurd (omega (arith, width, q.1)))
    are (last_bundle count bytes (count % 256 == 0) refl)

-- the last tile of a level, likewise
IsLastTile : ℕ → ℕ → List ℕ → Type 0
IsLastTile count level name =
    (width : ℕ) × (width < 256) × (name ≡ tile_path level ((hash_count level count - 1) / 256) width)

IsLastBelow : ℕ → ℕ → List ℕ → Type 0
IsLastBelow count k name = (level : ℕ) × (level < k) × IsLastTile count level name

last_tile : (H : HashFunction) (count level : ℕ) (q : List (List ℕ)) (b d : Bool) → (hash_count level count % 256 == 0) ≡ b
    → AreSuch (IsLastTile count level)
    (let c = hash_count level count in
    if b then [] else if d then [] else record { name = tile_path level ((c - 1) / 256) ((c - 1) % 256 + 1); bytes = last_bytes H level q } ∷ [])
unfolding IsLastTile
last_tile H count level q true d is = no_files (IsLastTile count level)
last_tile H count level q false true is = no_files (IsLastTile count level)
last_tile H count level q false false is =
    let c : ℕ = hash_count level count in
    let some : c % 256 ≡ 0 → ⊥ = λ none. true≢false (sym ((Decides-eqb (c % 256) 0).1 none) ∙ is) in
    one_file (IsLastTile count level) _ ((c - 1) % 256 + 1, partial_width c some, refl)

index_low : (count size : ℕ) → count < 2 ^ 64 → (count / size - 1) / 256 < 2 ^ 64
index_low count size low = omega (arith, div-le_self count size, low)

last_tiles : (H : HashFunction) (count : ℕ) (q : List (List ℕ)) (k : ℕ) → k ≤ 8 → count < 2 ^ 64
    → AreSuch (IsLastBelow count k) (of_levels (partial_files H count q) k)
unfolding of_levels IsLastBelow IsLastTile
last_tiles H count q zero within low = no_files (IsLastBelow count zero)
last_tiles H count q (suc k) within low =
    put_behind (IsLastBelow count k) (IsLastTile count k) (IsLastBelow count (suc k)) (of_levels (partial_files H count q) k) (partial_files H count q k)
    (λ x p. (p.0, omega (arith, p.1), p.2))
    (λ y is. (k, omega arith, is))
    (λ x y p is same.
    let level = (tiles_differ p.0 ((hash_count p.0 count - 1) / 256) p.2.0 k ((hash_count k count - 1) / 256) is.0
    (omega (arith, p.1, within)) (omega (arith, within))
    (index_low count (2 ^ (8 * p.0)) low) (index_low count (2 ^ (8 * k)) low) (omega (arith, p.2.1)) (omega (arith, is.1))
    (sym p.2.2 ∙ same ∙ is.2)).0 in
    absurd (omega (arith, level, p.1)))
    (last_tiles H count q k (omega (arith, within)) low)
    (last_tile H count k q (hash_count k count % 256 == 0) (hash_count k count == 0) refl)

tiles_finished : (H : HashFunction) (count : ℕ) (tiles : List Named) (q : List (List ℕ)) → count < 2 ^ 64
    → AreSuch (IsFullTile count) tiles → AreSuch IsTileName (tiles ++ of_levels (partial_files H count q) 8)
unfolding IsLastBelow IsLastTile
tiles_finished H count tiles q low are =
    put_behind (IsFullTile count) (IsLastBelow count 8) IsTileName tiles (of_levels (partial_files H count q) 8)
    (λ x p. (p.0, p.1, 256, p.2, lit≤ tt, p.4))
    (λ y is. (is.0, (hash_count is.0 count - 1) / 256, is.2.0, is.1, omega (arith, is.2.1), is.2.2))
    (λ x y p is same.
    let width = (tiles_differ p.0 p.1 256 is.0 ((hash_count is.0 count - 1) / 256) is.2.0
    (omega (arith, p.2)) (omega (arith, is.1))
    (omega (arith, p.3, small count (2 ^ (8 * p.0)) low)) (index_low count (2 ^ (8 * is.0)) low) (lit< tt) (omega (arith, is.2.1))
    (sym p.4 ∙ same ∙ is.2.2)).2 in
    absurd (omega (arith, width, is.2.1)))
    are (last_tiles H count q 8 (omega arith) low)

pub all_finished : (H : HashFunction) (count : ℕ) (bundles tiles : List Named) (bytes : List ℕ) (q : List (List ℕ))
    → count < 2 ^ 64 → AreSuch (IsFullBundle count) bundles → AreSuch (IsFullTile count) tiles
    → AreSuch IsName ((bundles ++ partial_bundle count bytes) ++ (tiles ++ of_levels (partial_files H count q) 8))
all_finished H count bundles tiles bytes q low front back =
    put_behind IsBundleName IsTileName IsName (bundles ++ partial_bundle count bytes) (tiles ++ of_levels (partial_files H count q) 8)
    (λ x p. inl p)
    (λ y p. inr p)
    (λ x y p t same. kinds_differ t.0 t.1 t.2 p.0 p.1 (omega (arith, t.3)) (sym t.5 ∙ sym same ∙ p.3))
    (bundles_finished count bundles bytes low front)
    (tiles_finished H count tiles q low back)
