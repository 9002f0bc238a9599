-- The digests of eight messages that end in one block.
use Rattle.std.proofs.Common.{◌≡◌, ℕ, ◌+◌, ◌-◌, ◌%◌, ◌^◌, [], ◌∷◌, slice_index, replicate, ◌≤◌, List, ◌++◌, length, length-drop, length-take, drop, take, refl, ap, ◌∙◌, arith, length-append}
use Rattle.std.proofs.lemmas.List.{length-take-le, take_all, take-append-le}
use Rattle.std.proofs.lemmas.Slice.{take-put_mid}
use borrow.Rule.Slice.PartMut.{put_mid}
use Rattle.sha256_lanes.specs.Eight.{ended_block, head_bytes, lane_bytes, word_in}
use Rattle.sha256_lanes.specs.Lanes.{variables}
use Rattle.sha256_lanes.specs.Midstate.{BeginsWith}
use Rattle.sha256_lanes.specs.Sha256.{compress, sha256, word_bytes}
use Rattle.sha256_lanes.specs.declared.hashing.Midstate.{Midstate}
use Rattle.sha256_lanes.specs.declared.lanes.Eight.{Eight}
use Rattle.sha256_lanes.specs.declared.lanes.Heads.{Heads}
use Rattle.sha256_lanes.proofs.Ending.{ended_block_is, sha256_of_two}

pub length-head_bytes : (heads : Heads) (j : ℕ) → length (head_bytes heads j) ≡ 22
unfolding head_bytes
length-head_bytes heads j = refl

pub length-lane_bytes : (values : Eight) (j : ℕ) → length (lane_bytes values j) ≡ 32
unfolding lane_bytes
length-lane_bytes values j = refl

-- what is hashed after the first block
pub length-tail : (heads : Heads) (values : Eight) (n j : ℕ) → n ≤ 32
    → length (head_bytes heads j ++ take n (lane_bytes values j)) ≡ 22 + n
length-tail heads values n j small =
    let all = length-lane_bytes values j in
    omega (
      arith,
      length-append (head_bytes heads j) (take n (lane_bytes values j)),
      length-head_bytes heads j,
      length-take-le n (lane_bytes values j) (omega (arith, all)),
    )

-- the bytes of the words of a digest
pub digest_of_lane : (midstate : Midstate) (m : List ℕ) (heads : Heads) (values digests : Eight) (n j : ℕ)
    → BeginsWith midstate m → n ≤ 32
    → variables (λ lanes. word_in lanes j) digests.words
    ≡ compress midstate.words (ended_block (head_bytes heads j ++ take n (lane_bytes values j)) (86 + n))
    → lane_bytes digests j ≡ sha256 (m ++ (head_bytes heads j ++ take n (lane_bytes values j)))
unfolding lane_bytes BeginsWith
digest_of_lane midstate m heads values digests n j held small is =
    let d : List ℕ = head_bytes heads j ++ take n (lane_bytes values j) in
    let len : length d ≡ 22 + n = length-tail heads values n j small in
    ap word_bytes (is ∙ ap (compress midstate.words) (ended_block_is d (86 + n) (omega arith) (omega arith)))
    ∙ sha256_of_two midstate.words m d (86 + n) held.0 held.1 (omega arith) (omega arith)

-- both at the front of a block
pub tail_joined : (heads : Heads) (values : Eight) (n j : ℕ) → n ≤ 32 → (head value : List ℕ)
    → head ≡ head_bytes heads j
    → value ≡ take (length (take (22 + n - 22) (drop 22 (head ++ replicate 42 0)))) (lane_bytes values j)
    → take (22 + n) (put_mid 22 (22 + n - 22) (head ++ replicate 42 0) value) ≡ head_bytes heads j ++ take n (lane_bytes values j)
tail_joined heads values n j small head value is_head is_value =
    let all = length-lane_bytes values j in
    let front : length head ≡ 22 = ap length is_head ∙ length-head_bytes heads j in
    let zeros : List ℕ = replicate 42 0 in
    let room : length (take (22 + n - 22) (drop 22 (head ++ zeros))) ≡ n =
    omega (arith, length-take (22 + n - 22) (drop 22 (head ++ zeros)), length-drop 22 (head ++ zeros), length-append head zeros) in
    let first : value ≡ take n (lane_bytes values j) = is_value ∙ ap (λ k. take k (lane_bytes values j)) room in
    let size : length value ≡ n = ap length first ∙ length-take-le n (lane_bytes values j) (omega (arith, all)) in
    take-put_mid 22 (22 + n - 22) (head ++ zeros) value (22 + n) (omega arith) (omega (arith, length-append head zeros))
    ∙ ap (λ l. l ++ value) (take-append-le 22 head zeros (omega arith) ∙ take_all 22 head (omega arith))
    ∙ rw (is_head, first) refl

-- the first 18 bytes of a head, with others after them
pub front_kept : (heads : Heads) (j : ℕ) (rest : List ℕ) → take 18 (take 18 (head_bytes heads j) ++ rest) ≡ take 18 (head_bytes heads j)
unfolding head_bytes
front_kept heads j rest = refl

-- where a head ends with zeros
pub front_ended : (heads ended : Heads) (j : ℕ) → head_bytes ended j ≡ take 18 (head_bytes heads j) ++ (0 ∷ 0 ∷ 0 ∷ 0 ∷ [])
    → word_in ended.w4 j % 2 ^ 16 ≡ 0
unfolding head_bytes
front_ended heads ended j is =
    omega (arith, ap (λ l. slice_index l 18) is, ap (λ l. slice_index l 19) is)
