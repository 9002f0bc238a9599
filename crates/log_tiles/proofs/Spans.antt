-- Runs of hashes of a tile: where they stand, and what the roots over them are.
use Rattle.std.proofs.Common.{◌≡◌, ℕ, ◌+◌, ◌-◌, ◌*◌, ◌/◌, ◌%◌, ◌^◌, ◌<◌, ◌≤◌, List, [], length, get_or, refl, sym, ap, ◌∙◌, arith}
use Rattle.std.proofs.Math.Nat.{div-div-eq-div-mul, div-mul-le_self, mod-eq_of_lt, mod-lt}
use Rattle.std.proofs.Math.Pow.{pow-lt}
use Rattle.std.proofs.lemmas.Nat.{div-add-mod', div-mul-add, pow_pos, pow-add}
use Rattle.std.proofs.lemmas.List.FromFn.{get_or-map-range_with_len, length-map-range_with_len}
use Rattle.merkle_tree.specs.Hashes.{HashFunction}
use Rattle.merkle_tree.specs.Tree.{tree_root}
use Rattle.merkle_store.specs.Nodes.{run_root}
use Rattle.log_tiles.proofs.Runs.{row_root}
use Rattle.log_tiles.specs.Tiles.{AreTilesOf, Tiles, hashes_under, level_hash}

-- what a shift gives
pub shifted : (r : ℕ) → r < 8 → 1 * 2 ^ r % 18446744073709551616 ≡ 2 ^ r
shifted r few =
    let small : 2 ^ r < 2 ^ 8 = pow-lt few in
    ap (λ n. n % 18446744073709551616) (omega arith) ∙ mod-eq_of_lt (omega (arith, small))

-- spans of 2 ^ r hashes make a tile
whole_spans : (r : ℕ) → r < 8 → 2 ^ (8 - r) * 2 ^ r ≡ 256
whole_spans r few =
    let all : 8 - r + r ≡ 8 = omega (arith, few) in
    sym (pow-add 2 (8 - r) r) ∙ ap (λ n. 2 ^ n) all

spans_in : (r : ℕ) → r < 8 → 256 / 2 ^ r ≡ 2 ^ (8 - r)
spans_in r few =
    let whole : 256 ≡ 2 ^ (8 - r) * 2 ^ r + 0 = omega (arith, whole_spans r few) in
    ap (λ n. n / 2 ^ r) whole ∙ div-mul-add (2 ^ (8 - r)) (2 ^ r) 0 (pow_pos r)

span_room : (x s p : ℕ) → x < s → x * p + p ≤ s * p
span_room x s p below =
    let d = s - (x + 1) in
    let split : s ≡ x + 1 + d = omega (arith, below) in
    omega (arith, ap (λ n. n * p) split)

pub span_fits : (x r : ℕ) → r < 8 → x % (256 / 2 ^ r) * 2 ^ r + 2 ^ r ≤ 256
span_fits x r few =
    let s = 2 ^ (8 - r) in
    rw (spans_in r few) (omega (arith, whole_spans r few, span_room (x % s) s (2 ^ r) (mod-lt x (pow_pos (8 - r)))))

pub span_start : (x r : ℕ) → r < 8 → x % (256 / 2 ^ r) * 2 ^ r ≡ x * 2 ^ r % 256
span_start x r few =
    let p = 2 ^ r in
    let s = 2 ^ (8 - r) in
    let a = x / s in
    let y = x % s in
    let split : x ≡ a * s + y = sym (div-add-mod' x s) in
    let room : y * p + p ≤ s * p = span_room y s p (mod-lt x (pow_pos (8 - r))) in
    let product : x * p ≡ a * (s * p) + y * p = ap (λ n. n * p) split ∙ omega arith in
    let places : x * p ≡ a * 256 + y * p = product ∙ ap (λ n. a * n + y * p) (whole_spans r few) in
    rw (spans_in r few) (omega (arith, places, room, whole_spans r few, pow_pos r))

-- in which tile a hash is, by the span of twice as many that it is in
in_tile : (r e y : ℕ) → r < 8 → y < 2 ^ (r + 1) → (e * 2 ^ (r + 1) + y) / 256 ≡ e / 2 ^ (7 - r)
in_tile r e y few small =
    let w = 2 ^ (r + 1) in
    let s = 2 ^ (7 - r) in
    let all : r + 1 + (7 - r) ≡ 8 = omega (arith, few) in
    let whole : 256 ≡ w * s = sym (sym (pow-add 2 (r + 1) (7 - r)) ∙ ap (λ n. 2 ^ n) all) in
    ap (λ n. (e * w + y) / n) whole ∙ sym (div-div-eq-div-mul (e * w + y) w s) ∙ ap (λ n. n / s) (div-mul-add e w y small)

-- the last run of a height, where it stands behind an even number of others, is in the last tile
last_tile_has : (r count m x : ℕ) → r < 8 → count ≡ m / 2 ^ r → count % 2 ≡ 1 → x < 2 ^ r → ((count - 1) * 2 ^ r + x) / 256 ≡ (m - 1) / 256
last_tile_has r count m x few is odd small =
    let p = 2 ^ r in
    let e = count / 2 in
    let twice : 2 ^ (r + 1) ≡ p * 2 = pow-add 2 r 1 in
    let low = m % p in
    let below : low < p = mod-lt m (pow_pos r) in
    let half : count ≡ e * 2 + 1 = omega (arith, odd) in
    let split : m ≡ count * p + low = sym (div-add-mod' m p) ∙ ap (λ n. n * p + low) (sym is) in
    let product : count * p ≡ e * (p * 2) + p = ap (λ n. n * p) half ∙ omega arith in
    let even : count - 1 ≡ e * 2 = omega (arith, half) in
    let here : (count - 1) * p + x ≡ e * 2 ^ (r + 1) + x
    = ap (λ n. n * p + x) even ∙ omega (arith, ap (λ n. e * n) twice) in
    let there : m - 1 ≡ e * 2 ^ (r + 1) + (p + low - 1) = omega (arith, split, product, ap (λ n. e * n) twice, pow_pos r) in
    ap (λ n. n / 256) here ∙ in_tile r e x few (omega (arith, twice, small))
    ∙ sym (ap (λ n. n / 256) there ∙ in_tile r e (p + low - 1) few (omega (arith, twice, below, pow_pos r)))

-- the root over the last run of a height
pub last_is : (H : HashFunction) (tiles : Tiles) (q row : List (List ℕ)) (height count : ℕ) → AreTilesOf H tiles q → height < 64
    → count ≡ tiles.count / 2 ^ height → count % 2 ≡ 1 → length row ≡ 2 ^ (height % 8)
    → ((x : ℕ) → x < 2 ^ (height % 8) → get_or row x [] ≡ get_or tiles.hashes (256 * (height / 8) + ((count - 1) * 2 ^ (height % 8) % 256 + x)) [])
    → (count - 1) * 2 ^ (height % 8) % 256 + 2 ^ (height % 8) ≤ 256
    → tree_root H row ≡ run_root H height (count - 1) q
last_is H tiles q row height count are few is odd size places fits =
    let l = height / 8 in
    let r = height % 8 in
    let p = 2 ^ r in
    let n = length q in
    let m = n / 2 ^ (8 * l) in
    let low : r < 8 = omega arith in
    let parts : height ≡ 8 * l + r = omega arith in
    let pow : 2 ^ height ≡ 2 ^ (8 * l) * p = ap (λ h. 2 ^ h) parts ∙ pow-add 2 (8 * l) r in
    let by_m : count ≡ m / p = is ∙ ap (λ c. c / 2 ^ height) are.count ∙ ap (λ d. n / d) pow ∙ sym (div-div-eq-div-mul n (2 ^ (8 * l)) p) in
    let back : count - 1 + 1 ≡ count = omega (arith, odd) in
    let inside : (count - 1 + 1) * 2 ^ (8 * l + r) ≤ n
    = rw (back, ← parts, is, are.count) (div-mul-le_self n (2 ^ height)) in
    let within : count * p ≤ m = rw by_m (div-mul-le_self m p) in
    let split : count * p ≡ (count - 1) * p + p = ap (λ c. c * p) (sym back) ∙ omega arith in
    row_root H (8 * l) r (count - 1) q row inside size (λ x small.
    let j = (count - 1) * p + x in
    let rest : j % 256 ≡ (count - 1) * p % 256 + x = omega (arith, fits, small) in
    places x small ∙ ap (λ k. get_or tiles.hashes (256 * l + k) []) (sym rest)
    ∙ are.hashes l (omega (arith, few)) j (omega (arith, within, split, small)) (last_tile_has r count m x low by_m odd small))
    ∙ ap (λ h. run_root H h (count - 1) q) (sym parts)

-- the root over a run, from the hashes under it
pub under_is : (H : HashFunction) (height i : ℕ) (q row : List (List ℕ)) → (i + 1) * 2 ^ height ≤ length q
    → row ≡ hashes_under H height i q → tree_root H row ≡ run_root H height i q
under_is H height i q row inside is =
    let l = height / 8 in
    let r = height % 8 in
    let p = 2 ^ r in
    let f = level_hash H l q in
    let parts : height ≡ 8 * l + r = omega arith in
    let within : (i + 1) * 2 ^ (8 * l + r) ≤ length q = rw (← parts) inside in
    let size : length row ≡ p = ap length is ∙ length-map-range_with_len f (i * p) p in
    row_root H (8 * l) r i q row within size (λ x small.
    ap (λ (k : List (List ℕ)). get_or k x []) is ∙ get_or-map-range_with_len f (i * p) p x (i * p + x) [] small refl)
    ∙ ap (λ h. run_root H h i q) (sym parts)

-- which tile has them
pub tile_of_span : (x r : ℕ) → r < 8 → x / (256 / 2 ^ r) ≡ x * 2 ^ r / 256
tile_of_span x r few =
    let p = 2 ^ r in
    let s = 2 ^ (8 - r) in
    let a = x / s in
    let y = x % s in
    let split : x ≡ a * s + y = sym (div-add-mod' x s) in
    let room : y * p + p ≤ s * p = span_room y s p (mod-lt x (pow_pos (8 - r))) in
    let product : x * p ≡ a * (s * p) + y * p = ap (λ n. n * p) split ∙ omega arith in
    let places : x * p ≡ a * 256 + y * p = product ∙ ap (λ n. a * n + y * p) (whole_spans r few) in
    rw (spans_in r few) (omega (arith, places, room, whole_spans r few, pow_pos r))
