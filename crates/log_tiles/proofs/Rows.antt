-- The last tiles of a log, as a digest more changes them level by level.
use Rattle.std.proofs.Common.{◌≡◌, ◌≢◌, ℕ, zero, suc, ◌+◌, ◌-◌, ◌*◌, ◌/◌, ◌%◌, ◌^◌, ◌<◌, ◌≤◌, List, [], ◌∷◌, ◌++◌, length, take, drop, get_or, set, subst, cond, inl, inr, refl, sym, ap, ◌∙◌, arith, length-take, length-drop, length-append}
use Rattle.std.proofs.Math.Nat.{div-div-eq-div-mul}
use Rattle.std.proofs.lemmas.Nat.{div-mul-add, pow_pos, pow-add}
use Rattle.std.proofs.lemmas.Bool.{cases_lt}
use Rattle.std.proofs.lemmas.List.{ext_get_or, get_or-append-add, get_or_append_left, get_or-set_same, get_or-set_other, get_or-take, get_or-drop, drop_at}
use Rattle.std.proofs.lemmas.List.FromFn.{get_or-map-range_with_len, length-map-range_with_len}
use Rattle.merkle_tree.proofs.Growing.{differ, same}
use Rattle.merkle_tree.proofs.Splitting.{one_leaf}
use Rattle.merkle_tree.specs.Hashes.{HashFunction}
use Rattle.merkle_tree.specs.Tree.{tree_root}
use Rattle.merkle_store.specs.Nodes.{run_root}
use Rattle.log_tiles.proofs.Runs.{row_root, run_inside, run_same}
use Rattle.log_tiles.specs.Tiles.{AreTilesOf, IsLastTile, Tiles, full_within, hash_count, last_width, level_hash, tile_hashes}

-- the hashes of the last tile of a level are in their places
abbrev pub IsRow : HashFunction → List (List ℕ) → List (List ℕ) → ℕ → ℕ → Type 0
IsRow H hashes q n level = (i : ℕ) → i < hash_count level n → i / 256 ≡ (hash_count level n - 1) / 256
    → get_or hashes (256 * level + i % 256) [] ≡ level_hash H level q i

-- the levels below `level` have the last tiles with the digest d, the others those without it
pub record IsCarried (H : HashFunction) (hashes q : List (List ℕ)) (d : List ℕ) (level : ℕ) : Type 0 where
  pub low : (l : ℕ) → l < level → IsRow H hashes (q ++ d ∷ []) (length q + 1) l
  pub high : (l : ℕ) → level ≤ l → l < 8 → IsRow H hashes q (length q) l

-- counts of hashes where a run ends with the last digest
count_new : (c at p : ℕ) → 0 < p → c + 1 ≡ (at + 1) * p → (c + 1) / p ≡ at + 1
count_new c at p some ends = ap (λ n. n / p) (ends ∙ omega arith) ∙ div-mul-add (at + 1) p 0 some

count_old : (c at p : ℕ) → 0 < p → c + 1 ≡ (at + 1) * p → c / p ≡ at
count_old c at p some ends =
    let split : c ≡ at * p + (p - 1) = omega (arith, ends, some) in
    ap (λ n. n / p) split ∙ div-mul-add at p (p - 1) (omega (arith, some))

-- and where the next level's doesn't
count_above : (c at p r : ℕ) → 0 < p → c + 1 ≡ (at + 1) * p → (at % 256 ≡ 255 → ⊥) → (c + 1) / (p * (256 * r)) ≡ c / (p * (256 * r))
count_above c at p r some ends not_full =
    let same : (at + 1) / 256 ≡ at / 256 = omega (arith, not_full) in
    sym (div-div-eq-div-mul (c + 1) p (256 * r)) ∙ ap (λ n. n / (256 * r)) (count_new c at p some ends)
    ∙ sym (div-div-eq-div-mul (at + 1) 256 r) ∙ ap (λ n. n / r) same ∙ div-div-eq-div-mul at 256 r
    ∙ ap (λ n. n / (256 * r)) (sym (count_old c at p some ends)) ∙ div-div-eq-div-mul c p (256 * r)

pub start : (H : HashFunction) (tiles : Tiles) (q : List (List ℕ)) (d : List ℕ) → AreTilesOf H tiles q → IsCarried H tiles.hashes q d 0
start H tiles q d are = record {
  low = λ l below. absurd (omega (arith, below));
  high = λ l _ few i inside last. are.hashes l few i inside last;
}

-- places of two levels are apart
apart : (l level i j : ℕ) → (l ≡ level → ⊥) → 256 * l + i % 256 ≢ 256 * level + j % 256
apart l level i j other same = other (omega (arith, same))

-- a level gets its hash
pub write : (H : HashFunction) (hashes q : List (List ℕ)) (d value : List ℕ) (level at : ℕ) → level < 8 → length hashes ≡ 2048
    → length q + 1 ≡ (at + 1) * 2 ^ (8 * level) → value ≡ level_hash H level (q ++ d ∷ []) at
    → IsCarried H hashes q d level → IsCarried H (set hashes (256 * level + at % 256) value) q d (level + 1)
write H hashes q d value level at few room ends is carried =
    let p = 2 ^ (8 * level) in
    let some : 0 < p = pow_pos (8 * level) in
    let now : hash_count level (length q + 1) ≡ at + 1 = count_new (length q) at p some ends in
    let was : hash_count level (length q) ≡ at = count_old (length q) at p some ends in
    let place = 256 * level + at % 256 in
    record {
      low = λ l below i inside last. elim (cases_lt l level) [
        | inl less ↦ get_or-set_other hashes place (256 * l + i % 256) value [] (apart l level i at (λ e. omega (arith, e, less)))
            ∙ carried.low l less i inside last
        | inr more ↦
            let here : l ≡ level = omega (arith, below, more) in
            let inside_here : i < at + 1 = omega (arith, rw here at inside, now) in
            let last_here : i / 256 ≡ (at + 1 - 1) / 256 = rw here at last ∙ ap (λ n. (n - 1) / 256) now in
            rw here (elim (cases_lt i at) [
              | inl old ↦
                  get_or-set_other hashes place (256 * level + i % 256) value [] (λ e. omega (arith, e, old, last_here))
                  ∙ carried.high level (omega arith) few i (omega (arith, old, was)) (omega (arith, old, was, last_here))
                  ∙ sym (run_same H (8 * level) i q (d ∷ []) (run_inside i (length q) p some (omega (arith, old, was))))
              | inr new ↦
                  let same : i ≡ at = omega (arith, new, inside_here) in
                  rw same (get_or-set_same hashes place value [] (omega (arith, room, few)) ∙ is)
            ])
      ];
      high = λ l above below i inside last.
          get_or-set_other hashes place (256 * l + i % 256) value [] (apart l level i at (λ e. omega (arith, e, above)))
          ∙ carried.high l (omega (arith, above)) below i inside last;
    }

-- the first digest of a level without others
pub leaf_is : (H : HashFunction) (q : List (List ℕ)) (d : List ℕ) → d ≡ level_hash H 0 (q ++ d ∷ []) (length q)
leaf_is H q d =
    let place : length q * 1 ≡ length q = omega arith in
    sym (ap (λ k. tree_root H (take 1 (drop k (q ++ d ∷ [])))) place
    ∙ ap (λ r. tree_root H (take 1 r)) (drop_at q (d ∷ []) (length q) refl) ∙ one_leaf H d)

-- the root over a full tile is the hash of the next level
pub row_is : (H : HashFunction) (hashes q : List (List ℕ)) (d : List ℕ) (level at : ℕ) → level < 8 → length hashes ≡ 2048
    → length q + 1 ≡ (at + 1) * 2 ^ (8 * level) → at % 256 ≡ 255 → IsCarried H hashes q d (level + 1)
    → tree_root H (take 256 (drop (256 * level) hashes)) ≡ level_hash H (level + 1) (q ++ d ∷ []) (at / 256)
row_is H hashes q d level at few room ends full carried =
    let p = 2 ^ (8 * level) in
    let some : 0 < p = pow_pos (8 * level) in
    let more = q ++ d ∷ [] in
    let long : length more ≡ length q + 1 = length-append q (d ∷ []) in
    let row = take 256 (drop (256 * level) hashes) in
    let now : hash_count level (length q + 1) ≡ at + 1 = count_new (length q) at p some ends in
    let height : 8 * (level + 1) ≡ 8 * level + 8 = omega arith in
    let pow : 2 ^ (8 * level + 8) ≡ p * 256 = pow-add 2 (8 * level) 8 in
    let whole : at + 1 ≡ (at / 256 + 1) * 256 = omega (arith, full) in
    let inside : (at / 256 + 1) * 2 ^ (8 * level + 8) ≤ length more
    = rw (pow, long, ends, whole) (omega arith) in
    let root : tree_root H row ≡ run_root H (8 * level + 8) (at / 256) more
    = row_root H (8 * level) 8 (at / 256) more row inside (omega (arith, room, few, length-take 256 (drop (256 * level) hashes), length-drop (256 * level) hashes))
    (λ x small.
    let i = at / 256 * 256 + x in
    let rest : i % 256 ≡ x = omega (arith, small) in
    let front : i / 256 ≡ at / 256 = omega (arith, small) in
    get_or-take 256 (drop (256 * level) hashes) x [] small ∙ get_or-drop (256 * level) hashes x []
    ∙ ap (λ r. get_or hashes (256 * level + r) []) (sym rest)
    ∙ carried.low level (omega arith) i (omega (arith, now, whole, small)) (omega (arith, front, now))) in
    root ∙ ap (λ h. run_root H h (at / 256) more) (sym height)

-- all levels have their last tiles with the digest
pub finish : (H : HashFunction) (hashes q : List (List ℕ)) (d : List ℕ) (level at : ℕ)
    → length q + 1 ≡ (at + 1) * 2 ^ (8 * level) → (level < 7 → at % 256 ≡ 255 → ⊥) → IsCarried H hashes q d (level + 1)
    → AreTilesOf H (record { count = length q + 1; hashes = hashes }) (q ++ d ∷ [])
finish H hashes q d level at ends stopped carried =
    let p = 2 ^ (8 * level) in
    let some : 0 < p = pow_pos (8 * level) in
    let long : length (q ++ d ∷ []) ≡ length q + 1 = length-append q (d ∷ []) in
    record {
      count = sym long;
      hashes = λ l few i. rw long (elim (cases_lt l (level + 1)) [
        | inl low ↦ λ inside last. carried.low l low i inside last
        | inr high ↦ λ inside last.
            let above = l - (level + 1) in
            let height : 8 * l ≡ 8 * level + (8 + 8 * above) = omega (arith, high) in
            let pow : 2 ^ (8 * l) ≡ p * (256 * 2 ^ (8 * above))
            = ap (λ h. 2 ^ h) height ∙ pow-add 2 (8 * level) (8 + 8 * above) ∙ ap (λ r. p * r) (pow-add 2 8 (8 * above)) in
            let same : hash_count l (length q + 1) ≡ hash_count l (length q)
            = ap (λ r. (length q + 1) / r) pow ∙ count_above (length q) at p (2 ^ (8 * above)) some ends (stopped (omega (arith, high, few))) ∙ ap (λ r. length q / r) (sym pow) in
            let inside_old : i < hash_count l (length q) = rw (← same) inside in
            carried.high l high few i inside_old (last ∙ ap (λ n. (n - 1) / 256) same)
            ∙ sym (run_same H (8 * l) i q (d ∷ []) (run_inside i (length q) (2 ^ (8 * l)) (pow_pos (8 * l)) inside_old))
      ]);
    }

-- a level whose last tile became full
pub full_step : (k j at : ℕ) → k ≡ suc j → at % 256 ≡ 255 → full_within k (at + 1) ≡ 1 + full_within j (at / 256 + 1)
unfolding full_within
full_step k j at one full =
    let whole : (at + 1) / 256 ≡ at / 256 + 1 = omega (arith, full) in
    ap (λ n. full_within n (at + 1)) one
    ∙ ap (λ b. cond b (1 + full_within j ((at + 1) / 256)) 0) (same ((at + 1) % 256) 0 (omega (arith, full)))
    ∙ ap (λ n. 1 + full_within j n) whole

-- and one whose didn't
pub full_stop : (k at : ℕ) → (at % 256 ≡ 255 → ⊥) → full_within k (at + 1) ≡ 0
unfolding full_within
full_stop zero at room = refl
full_stop (suc k) at room =
    ap (λ b. cond b (1 + full_within k ((at + 1) / 256)) 0) (differ ((at + 1) % 256) 0 (λ e. room (omega (arith, e))))

pub full_none : (n : ℕ) → full_within 0 n ≡ 0
unfolding full_within
full_none n = refl

-- the first digest of a level goes into the last tile of the leaves
pub first : (H : HashFunction) (tiles : Tiles) (q : List (List ℕ)) (d : List ℕ) (count : ℕ) → tiles.count ≡ count → length tiles.hashes ≡ 2048 → AreTilesOf H tiles q
    → IsCarried H (set tiles.hashes (count % 256) d) q d 1
first H tiles q d count is room are =
    let size : length q ≡ count = sym are.count ∙ is in
    let place : 256 * 0 + length q % 256 ≡ count % 256 = omega (arith, size) in
    let ends : length q + 1 ≡ (length q + 1) * 2 ^ (8 * 0) = omega arith in
    subst (λ (p : ℕ). IsCarried H (set tiles.hashes p d) q d 1) place
    (write H tiles.hashes q d d 0 (length q) (omega arith) room ends (leaf_is H q d) (start H tiles q d are))

last_some : (count x : ℕ) → x < last_width count → (0 < count) × (x ≤ (count - 1) % 256)
last_some count x small = elim (cases_lt 0 count) [
  | inl some ↦
      let width : last_width count ≡ (count - 1) % 256 + 1 = ap (λ b. cond b 0 ((count - 1) % 256 + 1)) (differ count 0 (λ e. omega (arith, e, some))) in
      (some, omega (arith, width, small))
  | inr none ↦
      let width : last_width count ≡ 0 = ap (λ b. cond b 0 ((count - 1) % 256 + 1)) (same count 0 (omega (arith, none))) in
      absurd (omega (arith, width, small))
]

last_most : (count : ℕ) → last_width count ≤ 256
last_most count = elim (cases_lt 0 count) [
  | inl some ↦
      let width : last_width count ≡ (count - 1) % 256 + 1 = ap (λ b. cond b 0 ((count - 1) % 256 + 1)) (differ count 0 (λ e. omega (arith, e, some))) in
      omega (arith, width)
  | inr none ↦
      let width : last_width count ≡ 0 = ap (λ b. cond b 0 ((count - 1) % 256 + 1)) (same count 0 (omega (arith, none))) in
      omega (arith, width)
]

-- the hashes of the last tile of a level
pub last_hashes : (H : HashFunction) (tiles : Tiles) (q : List (List ℕ)) (level : ℕ) → AreTilesOf H tiles q → level < 8 → length tiles.hashes ≡ 2048
    → take (last_width (hash_count level (length q))) (drop (256 * level) tiles.hashes)
    ≡ tile_hashes H level ((hash_count level (length q) - 1) / 256) (last_width (hash_count level (length q))) q
last_hashes H tiles q level are few room =
    let m = hash_count level (length q) in
    let w = last_width m in
    let index = (m - 1) / 256 in
    let front = drop (256 * level) tiles.hashes in
    let f = level_hash H level q in
    let long : length front ≡ 2048 - 256 * level = omega (arith, length-drop (256 * level) tiles.hashes, room) in
    let size : length (take w front) ≡ w = omega (arith, length-take w front, long, few, last_most m) in
    ext_get_or [] (take w front) (tile_hashes H level index w q) (size ∙ sym (length-map-range_with_len f (256 * index) w)) (λ x inside.
    let small : x < w = omega (arith, inside, size) in
    let some = last_some m x small in
    let i = 256 * index + x in
    let rest : i % 256 ≡ x = omega (arith, some.1) in
    get_or-take w front x [] small ∙ get_or-drop (256 * level) tiles.hashes x []
    ∙ ap (λ r. get_or tiles.hashes (256 * level + r) []) (sym rest)
    ∙ are.hashes level few i (omega (arith, some.0, some.1)) (omega (arith, some.1))
    ∙ sym (get_or-map-range_with_len f (256 * index) w x i [] small refl))

-- a tile that is put in its places
pub put_is : (H : HashFunction) (tiles : Tiles) (q row : List (List ℕ)) (level : ℕ) → length row ≡ last_width (hash_count level (length q))
    → row ≡ tile_hashes H level ((hash_count level (length q) - 1) / 256) (last_width (hash_count level (length q))) q
    → ((x : ℕ) → x < length row → get_or tiles.hashes (256 * level + x) [] ≡ get_or row x [])
    → IsLastTile H tiles q level
put_is H tiles q row level size is placed = λ i inside last.
    let m = hash_count level (length q) in
    let w = last_width m in
    let x = i % 256 in
    let width : w ≡ (m - 1) % 256 + 1 = ap (λ b. cond b 0 ((m - 1) % 256 + 1)) (differ m 0 (λ e. omega (arith, e, inside))) in
    let small : x < w = omega (arith, width, inside, last) in
    placed x (omega (arith, small, size)) ∙ ap (λ l. get_or l x []) is
    ∙ get_or-map-range_with_len (level_hash H level q) (256 * ((m - 1) / 256)) w x i [] small (omega (arith, last))

-- a part of a list that is written over
pub part_here : (a k x : ℕ) (xs ys : List (List ℕ)) → a ≤ length xs → x < length ys
    → get_or (take a xs ++ (ys ++ drop k (drop a xs))) (a + x) [] ≡ get_or ys x []
part_here a k x xs ys inside small =
    let front : length (take a xs) ≡ a = omega (arith, length-take a xs, inside) in
    let rest = ys ++ drop k (drop a xs) in
    ap (λ n. get_or (take a xs ++ rest) (n + x) []) (sym front) ∙ get_or-append-add (take a xs) rest x []
    ∙ get_or_append_left ys (drop k (drop a xs)) [] x small

pub part_before : (a k n : ℕ) (xs ys : List (List ℕ)) → a ≤ length xs → n < a
    → get_or (take a xs ++ (ys ++ drop k (drop a xs))) n [] ≡ get_or xs n []
part_before a k n xs ys inside small =
    get_or_append_left (take a xs) (ys ++ drop k (drop a xs)) [] n (omega (arith, length-take a xs, inside, small))
    ∙ get_or-take a xs n [] small

pub part_behind : (a k n : ℕ) (xs ys : List (List ℕ)) → a ≤ length xs → length ys ≡ k → a + k ≤ n
    → get_or (take a xs ++ (ys ++ drop k (drop a xs))) n [] ≡ get_or xs n []
part_behind a k n xs ys inside size far =
    let front : length (take a xs) ≡ a = omega (arith, length-take a xs, inside) in
    let j = n - (a + k) in
    let rest = ys ++ drop k (drop a xs) in
    let first : n ≡ length (take a xs) + (k + j) = omega (arith, front, far) in
    let second : k + j ≡ length ys + j = omega (arith, size) in
    let back : a + (k + j) ≡ n = omega (arith, far) in
    ap (λ m. get_or (take a xs ++ rest) m []) first ∙ get_or-append-add (take a xs) rest (k + j) []
    ∙ ap (λ m. get_or rest m []) second ∙ get_or-append-add ys (drop k (drop a xs)) j []
    ∙ get_or-drop k (drop a xs) j [] ∙ get_or-drop a xs (k + j) [] ∙ ap (λ m. get_or xs m []) back
