-- The hashes that a tile is told to have, and those of them under a node.
use Rattle.std.proofs.Common.{◌≡◌, ℕ, ◌+◌, ◌-◌, ◌*◌, ◌/◌, ◌%◌, ◌^◌, ◌<◌, ◌≤◌, List, [], length, take, drop, map, slice_index_or, inl, inr, refl, sym, ap, ◌∙◌, arith, length-take, length-drop}
use Rattle.std.specs.List.{range_with_len, slice_range}
use Rattle.std.proofs.Math.Nat.{div-mul-le_self}
use Rattle.std.proofs.lemmas.List.{ext_get_or, get_or-take, get_or-drop}
use Rattle.std.proofs.lemmas.List.FromFn.{get_or-map-range_with_len, length-map-range_with_len, take-map-range_with_len}
use Rattle.merkle_tree.specs.Hashes.{HashFunction}
use Rattle.log_tiles.specs.Shape.{IsPieceOf}
use Rattle.log_tiles.specs.Source.{AreHashesOf, first_digests}
use Rattle.log_tiles.specs.Tiles.{hash_count, hashes_under, level_hash, tile_hashes}
use Rattle.log_tiles.specs.declared.names.Tile.{Tile}

-- some in the middle of a row
row_part : (f : ℕ → List ℕ) (a n s k : ℕ) → s + k ≤ n
    → slice_range (map f (range_with_len a n)) s (s + k) ≡ map f (range_with_len (a + s) k)
row_part f a n s k fits =
    let row = map f (range_with_len a n) in
    let exact : s + k - s ≡ k = omega arith in
    let size : length row ≡ n = length-map-range_with_len f a n in
    let long : length (take (s + k - s) (drop s row)) ≡ k
    = omega (arith, exact, length-take (s + k - s) (drop s row), length-drop s row, size, fits) in
    ext_get_or [] (take (s + k - s) (drop s row)) (map f (range_with_len (a + s) k)) (long ∙ sym (length-map-range_with_len f (a + s) k)) (λ i inside.
    let small : i < k = omega (arith, inside, long) in
    get_or-take (s + k - s) (drop s row) i [] (omega (arith, exact, small))
    ∙ get_or-drop s row i []
    ∙ get_or-map-range_with_len f a n (s + i) (a + s + i) [] (omega (arith, small, fits)) (omega arith)
    ∙ sym (get_or-map-range_with_len f (a + s) k i (a + s + i) [] small refl))

-- a tile of a log is over entries that it has
piece_inside : (size level index width : ℕ) → IsPieceOf (hash_count level size) index width
    → (256 * index + width) * 2 ^ (8 * level) ≤ size
piece_inside size level index width piece =
    let b = 2 ^ (8 * level) in
    let x = 256 * index + width in
    let below : x ≤ size / b = elim piece [
      | inl full ↦ omega (arith, full.full, full.inside)
      | inr partial ↦ omega (arith, partial.rest, partial.last)
    ] in
    let split : size / b ≡ x + (size / b - x) = omega (arith, below) in
    omega (arith, ap (λ n. n * b) split, div-mul-le_self size b)

-- the hashes under a node are among those of its tile
pub under_told : (H : HashFunction) (digest : ℕ → List ℕ) (size height index start len : ℕ) (tile : Tile) (hashes under : List (List ℕ))
    → AreHashesOf H digest tile hashes → IsPieceOf (hash_count tile.level size) tile.index tile.width
    → tile.level ≡ height / 8 → tile.index ≡ index * 2 ^ (height % 8) / 256 → start ≡ index * 2 ^ (height % 8) % 256
    → len ≡ 2 ^ (height % 8) → start + len ≤ tile.width → under ≡ slice_range hashes start (start + len)
    → under ≡ hashes_under H height index (first_digests digest size)
under_told H digest size height index start len tile hashes under told piece level at begin count fits is =
    let q = first_digests digest size in
    let f = level_hash H tile.level q in
    let x = index * 2 ^ (height % 8) in
    let all : hashes ≡ tile_hashes H tile.level tile.index tile.width q
    = told size (piece_inside size tile.level tile.index tile.width piece) in
    let place : 256 * tile.index + start ≡ x = omega (arith, at, begin) in
    is ∙ ap (λ (l : List (List ℕ)). slice_range l start (start + len)) all
    ∙ row_part f (256 * tile.index) tile.width start len fits
    ∙ ap (λ n. map f (range_with_len n len)) place
    ∙ ap (λ n. map f (range_with_len x n)) count
    ∙ ap (λ l. map (level_hash H l q) (range_with_len x (2 ^ (height % 8)))) level

-- the digests of a log, how many they are, and those of an earlier one
pub digest_count : (digest : ℕ → List ℕ) (n : ℕ) → length (first_digests digest n) ≡ n
digest_count digest n = length-map-range_with_len digest 0 n

pub digest_at : (digest : ℕ → List ℕ) (n i : ℕ) → i < n → slice_index_or (first_digests digest n) i [] ≡ digest i
digest_at digest n i inside = get_or-map-range_with_len digest 0 n i i [] inside (omega arith)

pub earlier : (digest : ℕ → List ℕ) (n k : ℕ) → k ≤ n → take k (first_digests digest n) ≡ first_digests digest k
earlier digest n k few = take-map-range_with_len digest 0 n k few
