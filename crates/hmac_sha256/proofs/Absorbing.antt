-- How the hash value and the bytes that are held follow a message as it grows.
use Rattle.std.proofs.Common.{◌≡◌, ℕ, suc, ◌+◌, ◌-◌, ◌*◌, ◌/◌, ◌%◌, ◌^◌, ◌<◌, ◌≤◌, List, [], ◌∷◌, ◌++◌, length, take, drop, replicate, refl, sym, ap, ◌∙◌, arith, length-append, length-drop}
use Rattle.std.proofs.lemmas.List.{append_assoc, append-nil, drop-append-le, drop-drop, drop_all, take_all, take-append-le, take-append-drop, length-replicate, replicate-append-replicate, length-take-le}
use Rattle.std.proofs.lemmas.Slice.{take-put_mid}
use Rattle.std.specs.Int.{to_be_bytes, w64}
use borrow.Rule.Slice.PartMut.{put_mid, post_of}
use Rattle.hmac_sha256.specs.Hash.{HasAbsorbed, StandsFor}
use Rattle.sha256_lanes.specs.Sha256.{compress, fold_blocks, initial_words, padding, sha256, word_bytes, zero_count}
use Rattle.hmac_sha256.specs.declared.hashing.Hash.{Hash}
use Rattle.sha256_lanes.proofs.Ending.{length-ended}
use Rattle.sha256_lanes.proofs.Folding.{fold_blocks-add, fold_blocks-append, fold_blocks_first}

length-rest : (words bytes : List ℕ) (count : ℕ) (m : List ℕ) → HasAbsorbed words bytes count m → length bytes ≡ length m % 64
length-rest words bytes count m held = omega (arith, ap length held.rest, length-drop (64 * (length m / 64)) m)

-- More bytes d: with the bytes that are held, x in all, they make some more blocks and a new rest.
pub HasAbsorbed_more : (words bytes : List ℕ) (count : ℕ) (m d x more rest : List ℕ) (total : ℕ) → HasAbsorbed words bytes count m
    → x ≡ bytes ++ d → more ≡ fold_blocks words x (length x / 64) → rest ≡ drop (64 * (length x / 64)) x → total ≡ count + length d
    → HasAbsorbed more rest total (m ++ d)
HasAbsorbed_more words bytes count m d x more rest total held whole folded left counted =
    let q : ℕ = length m / 64 in
    let k : ℕ = length x / 64 in
    let held_len = length-rest words bytes count m held in
    let len : length (m ++ d) ≡ length m + length d = length-append m d in
    let x_len : length x ≡ length bytes + length d = ap length whole ∙ length-append bytes d in
    let blocks : length (m ++ d) / 64 ≡ q + k = omega arith in
    let tail : drop (64 * q) (m ++ d) ≡ x = drop-append-le (64 * q) m d (omega arith) ∙ rw (← held.rest) (sym whole) in
    let place : 64 * (q + k) ≡ 64 * q + 64 * k = omega arith in
    let before : fold_blocks initial_words (m ++ d) q ≡ words = fold_blocks-append initial_words m d q (omega arith) ∙ sym held.folded in
    record {
      folded = rw (blocks, fold_blocks-add initial_words (m ++ d) q k, before, tail) folded;
      rest = rw (blocks, place, ← drop-drop (64 * k) (64 * q) (m ++ d), tail) left;
      counted = omega (arith, held.counted);
    }

-- Where the bytes that are held and the first of d fill a block: it, whole blocks after it, and
-- what is left.
pub HasAbsorbed_blocks : (words bytes : List ℕ) (count : ℕ) (m d full blocks rest more : List ℕ) (total : ℕ) → HasAbsorbed words bytes count m
    → full ++ (blocks ++ rest) ≡ bytes ++ d → length full ≡ 64 → length blocks % 64 ≡ 0 → length rest < 64
    → more ≡ fold_blocks (compress words full) blocks (length blocks / 64) → total ≡ count + length d
    → HasAbsorbed more rest total (m ++ d)
HasAbsorbed_blocks words bytes count m d full blocks rest more total held whole full_len whole_blocks short folded counted =
    let x : List ℕ = full ++ (blocks ++ rest) in
    let k : ℕ = length blocks / 64 in
    let x_len : length x ≡ 64 + (length blocks + length rest) =
    omega (arith, length-append full (blocks ++ rest), length-append blocks rest) in
    let blocks_of_x : length x / 64 ≡ suc k = omega arith in
    let first : take 64 x ≡ full = take-append-le 64 full (blocks ++ rest) (omega arith) ∙ take_all 64 full (omega arith) in
    let others : drop 64 x ≡ blocks ++ rest =
    drop-append-le 64 full (blocks ++ rest) (omega arith) ∙ ap (λ (l : List ℕ). l ++ (blocks ++ rest)) (drop_all 64 full (omega arith)) in
    let even : 64 * k ≡ length blocks = omega arith in
    let place : 64 * suc k ≡ 64 + 64 * k = omega arith in
    let left : drop (64 * suc k) x ≡ rest =
    rw (place, ← drop-drop (64 * k) 64 x, others, even, drop-append-le (length blocks) blocks rest (omega arith), drop_all (length blocks) blocks (omega arith)) refl in
    HasAbsorbed_more words bytes count m d x more rest total held whole
    (rw (blocks_of_x, fold_blocks_first words x k, first, others, fold_blocks-append (compress words full) blocks rest k (omega arith)) folded)
    (rw (blocks_of_x, left) refl)
    counted

-- fewer bytes than fill a block
pub HasAbsorbed_short : (words bytes : List ℕ) (count : ℕ) (m d : List ℕ) (total : ℕ) → HasAbsorbed words bytes count m
    → length bytes + length d < 64 → total ≡ count + length d → HasAbsorbed words (bytes ++ d) total (m ++ d)
unfolding fold_blocks
HasAbsorbed_short words bytes count m d total held short counted =
    let none : length (bytes ++ d) / 64 ≡ 0 = omega (arith, length-append bytes d) in
    HasAbsorbed_more words bytes count m d (bytes ++ d) words (bytes ++ d) total held refl (rw none refl) (rw none refl) counted

-- the digest, from the bytes that are held and the padding
pub sha256-HasAbsorbed : (words bytes : List ℕ) (count : ℕ) (m x : List ℕ) → HasAbsorbed words bytes count m → x ≡ bytes ++ padding (length m)
    → sha256 m ≡ word_bytes (fold_blocks words x (length x / 64))
unfolding sha256
sha256-HasAbsorbed words bytes count m x held whole =
    let padded = HasAbsorbed_more words bytes count m (padding (length m)) x _ _ _ held whole refl refl refl in
    ap word_bytes (sym padded.folded)

-- ---- the padding

-- the digest where the padding fits one block
pub sha256_in_one_block : (words bytes : List ℕ) (count : ℕ) (m block : List ℕ) → HasAbsorbed words bytes count m
    → length bytes < 56 → count % 64 ≡ length bytes → block ≡ bytes ++ padding count
    → word_bytes (compress words block) ≡ sha256 m
unfolding fold_blocks
sha256_in_one_block words bytes count m block held short left is =
    let whole : block ≡ bytes ++ padding (length m) = is ∙ rw held.counted refl in
    let size : length block ≡ 64 = ap length is ∙ length-ended bytes count short left in
    let one : length block / 64 ≡ 1 = omega arith in
    sym (sha256-HasAbsorbed words bytes count m block held whole ∙ rw (one, take_all 64 block (omega arith)) refl)

-- the digest where the padding takes a second block
pub sha256_in_two_blocks : (words bytes : List ℕ) (count : ℕ) (m first last : List ℕ) → HasAbsorbed words bytes count m
    → 56 ≤ length bytes → length bytes < 64 → first ≡ bytes ++ 0x80 ∷ replicate (63 - length bytes) 0
    → last ≡ take 56 (replicate 64 0) ++ to_be_bytes w64 (8 * count % 2 ^ 64)
    → word_bytes (compress (compress words first) last) ≡ sha256 m
unfolding fold_blocks
sha256_in_two_blocks words bytes count m first last held long short is_first is_last =
    let r : ℕ = length bytes in
    let held_len = length-rest words bytes count m held in
    let zeros : zero_count (length m) ≡ 63 - r + 56 = omega arith in
    let ending : List ℕ = to_be_bytes w64 (8 * length m % 2 ^ 64) in
    let zeros56 : List ℕ = replicate 56 0 in
    let end : last ≡ zeros56 ++ ending = is_last ∙ rw held.counted refl in
    let split : replicate (63 - r + 56) 0 ≡ replicate (63 - r) 0 ++ zeros56 = sym (replicate-append-replicate (63 - r) 56 0) in
    let whole : first ++ last ≡ bytes ++ padding (length m) =
    rw (is_first, end, zeros, split, append_assoc bytes (0x80 ∷ replicate (63 - r) 0) (zeros56 ++ ending), append_assoc (replicate (63 - r) 0) zeros56 ending) refl in
    let first_size : length first ≡ 64 = omega (arith, ap length is_first, length-append bytes (0x80 ∷ replicate (63 - r) 0), length-replicate {A = ℕ} (63 - r) 0) in
    let last_size : length last ≡ 64 = ap length end in
    let two : length (first ++ last) / 64 ≡ 2 = omega (arith, length-append first last) in
    let front : take 64 (first ++ last) ≡ first = take-append-le 64 first last (omega arith) ∙ take_all 64 first (omega arith) in
    let back : drop 64 (first ++ last) ≡ last =
    drop-append-le 64 first last (omega arith) ∙ ap (λ (l : List ℕ). l ++ last) (drop_all 64 first (omega arith)) in
    sym (sha256-HasAbsorbed words bytes count m (first ++ last) held whole ∙ rw (two, front, back, take_all 64 last (omega arith)) refl)

-- ---- the object

-- what `update` leaves where the bytes don't fill the block
pub StandsFor_short : (old next : Hash) (m d written : List ℕ) (k j : ℕ) → StandsFor old m → length old.block ≡ 64
    → k ≡ old.total % 64 → k + length d < 64 → written ≡ d → next.state ≡ old.state
    → next.block ≡ put_mid k j old.block written → next.total ≡ old.total + length d → StandsFor next (m ++ d)
unfolding StandsFor
StandsFor_short old next m d written k j held len at short same words block total =
    let held_len : length (take k old.block) ≡ k = length-take-le k old.block (omega arith) in
    let sum : next.total % 64 ≡ k + length d = omega arith in
    let bytes : take (next.total % 64) next.block ≡ take k old.block ++ d =
    rw (sum, block, same) (take-put_mid k j old.block d (k + length d) refl (omega arith)) in
    rw (words, bytes) (HasAbsorbed_short old.state (take k old.block) old.total m d next.total (rw at held) (omega arith) total)

-- what `update` leaves where the bytes fill the block
pub StandsFor_full : (old next : Hash) (m d head tail written full blocks rest : List ℕ) (k : ℕ) → StandsFor old m → length old.block ≡ 64
    → k ≡ old.total % 64 → 64 ≤ k + length d → head ≡ take (64 - k) d → tail ≡ drop (64 - k) d → written ≡ head
    → full ≡ put_mid k (64 - k) old.block written → blocks ++ rest ≡ tail → length blocks ≡ length tail / 64 * 64
    → next.state ≡ fold_blocks (compress old.state full) blocks (length blocks / 64)
    → take (length rest) next.block ≡ rest → next.total ≡ old.total + length d → StandsFor next (m ++ d)
unfolding StandsFor
StandsFor_full old next m d head tail written full blocks rest k held len at long is_head is_tail same is_full parts even words left total =
    let bytes : List ℕ = take k old.block in
    let held_len : length bytes ≡ k = length-take-le k old.block (omega arith) in
    let head_len : length head ≡ 64 - k = ap length is_head ∙ length-take-le (64 - k) d (omega arith) in
    let tail_len : length tail ≡ length d - (64 - k) = ap length is_tail ∙ length-drop (64 - k) d in
    let none : post_of k (64 - k) old.block ≡ [] = drop_all (64 - k) (drop k old.block) (omega (arith, length-drop k old.block)) in
    let filled : full ≡ bytes ++ head = is_full ∙ rw (none, same, append-nil head) refl in
    let full_len : length full ≡ 64 = omega (arith, ap length filled, length-append bytes head) in
    let tail_parts : length tail ≡ length blocks + length rest = ap length (sym parts) ∙ length-append blocks rest in
    let whole : full ++ (blocks ++ rest) ≡ bytes ++ d =
    rw (parts, filled, append_assoc bytes head tail, is_head, is_tail, take-append-drop (64 - k) d) refl in
    let rest_len : next.total % 64 ≡ length rest = omega arith in
    let bytes_next : take (next.total % 64) next.block ≡ rest = rw rest_len left in
    rw bytes_next (HasAbsorbed_blocks old.state bytes old.total m d full blocks rest next.state next.total (rw at held) whole full_len (omega arith) (omega arith) words total)

-- where what was absorbed ends with a block, a tail is what is left after it
pub HasAbsorbed_tail : (hash : Hash) (m d : List ℕ) (total : ℕ) → StandsFor hash m → hash.total % 64 ≡ 0 → length d < 64
    → total ≡ hash.total + length d → HasAbsorbed hash.state d total (m ++ d)
unfolding StandsFor
HasAbsorbed_tail hash m d total held whole short counted =
    let none : take (hash.total % 64) hash.block ≡ [] = rw whole refl in
    HasAbsorbed_short hash.state [] hash.total m d total (rw none at held) (omega arith) counted
