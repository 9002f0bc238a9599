-- The two definitions agree part by part: the schedule, the rounds, a block, the blocks, the
-- padding, the digest's bytes. Names that begin with `their_` are those of `sha2`.
use Rattle.std.proofs.Common.{◌≡◌, ℕ, zero, suc, ◌+◌, ◌-◌, ◌*◌, ◌/◌, ◌%◌, ◌^◌, ◌≤◌, List, [], ◌∷◌, ◌++◌, length, take, drop, slice_index, nat_lt, true, false, refl, sym, ap, ◌∙◌, arith}
use Rattle.std.specs.Int.{to_be_bytes, w32}
use Rattle.std.proofs.lemmas.Bool.{le-ltb, lt-ltb}
use Rattle.std.proofs.lemmas.List.{append-nil, take_all, take_more}
use Rattle.std.proofs.lemmas.Grind.{flat_map-append}
use Rattle.sha256_lanes.specs.Sha256.{block_word, compress, fold_blocks, initial_words, pad, padding, schedule, sha256, word_bytes, zero_count}
use Rattle.sha256_lanes.specs.Rounds.{rounds_until}
use Rattle.sha256_lanes.proofs.Folding.{fold_blocks_next}
use Rattle.sha256_lanes.proofs.Digest.{length-fold_blocks}
use Rattle.sha256_lanes.proofs.Schedule.{compress-rounds_until, length-schedule, rounds_until_next, rounds_until_none}
use Rattle.sha2.specs.Sha256.{compress as their_compress, digest_bytes, first_words, hash_after, padded_message, padding as their_padding, rounds as their_rounds, schedule as their_schedule, sha256 as their_sha256, word_at}

-- a word of a block
word_at-block_word : (b : List ℕ) (i : ℕ) → block_word b i ≡ word_at b i
word_at-block_word b i = refl

-- the block's own words
early_words : (b : List ℕ) (n : ℕ) → n ≤ 16 → schedule b n ≡ first_words b n
unfolding schedule first_words
early_words b zero most = refl
early_words b (suc n) most =
    let count : length (schedule b n) ≡ n = length-schedule b n in
    let yes : nat_lt n 16 ≡ true = lt-ltb n 16 (omega arith) in
    rw (count, yes, early_words b n (omega arith), word_at-block_word b (4 * n)) refl

-- the whole schedule
schedules : (b : List ℕ) (n : ℕ) → schedule b (n + 16) ≡ their_schedule b n
unfolding schedule their_schedule
schedules b zero = early_words b 16 (omega arith)
schedules b (suc n) =
    let up : suc n + 16 ≡ suc (n + 16) = omega arith in
    let count : length (schedule b (n + 16)) ≡ n + 16 = length-schedule b (n + 16) in
    let no : nat_lt (n + 16) 16 ≡ false = le-ltb (n + 16) 16 (omega arith) in
    rw (up, count, no, schedules b n) refl

-- the rounds
all_rounds : (h b : List ℕ) (t : ℕ) → t ≤ 64 → rounds_until h b t ≡ their_rounds h (their_schedule b 48) t
unfolding their_rounds
all_rounds h b zero most = sym (rounds_until_none h b)
all_rounds h b (suc t) most =
    let up : suc t ≡ t + 1 = omega arith in
    let words : schedule b 64 ≡ their_schedule b 48 = schedules b 48 in
    ap (rounds_until h b) up ∙ rounds_until_next h b t (omega arith) ∙ rw (all_rounds h b t (omega arith), words) refl

-- one block
blocks : (h b : List ℕ) → compress h b ≡ their_compress h b
unfolding their_compress
blocks h b = compress-rounds_until h b ∙ rw (all_rounds h b 64 (omega arith)) refl

-- the blocks of a message
all_blocks : (h p : List ℕ) (n : ℕ) → fold_blocks h p n ≡ hash_after h p n
unfolding fold_blocks hash_after
all_blocks h p zero = refl
all_blocks h p (suc n) =
    let up : suc n ≡ n + 1 = omega arith in
    let place : 64 * n ≡ n * 64 = omega arith in
    ap (fold_blocks h p) up ∙ fold_blocks_next h p n
    ∙ rw (place, all_blocks h p n, blocks (hash_after h p n) (take 64 (drop (n * 64) p))) refl

-- the padding
paddings : (n : ℕ) → padding n ≡ their_padding n
paddings n =
    let zeros : zero_count n ≡ (119 - n % 64) % 64 = omega arith in
    let bits : 8 * n % 2 ^ 64 ≡ n * 8 % 2 ^ 64 = omega arith in
    rw (zeros, bits) refl

-- the bytes of the first words
digests : (h : List ℕ) (n : ℕ) → n ≤ length h → word_bytes (take n h) ≡ digest_bytes h n
unfolding digest_bytes
digests h zero most = refl
digests h (suc n) most =
    let up : suc n ≡ n + 1 = omega arith in
    ap (λ (k : ℕ). word_bytes (take k h)) up ∙ ap word_bytes (take_more h n 0 (omega arith))
    ∙ flat_map-append (to_be_bytes w32) (take n h) (slice_index h n ∷ [])
    ∙ rw (digests h n (omega arith)) (ap (λ (l : List ℕ). digest_bytes h n ++ l) (append-nil (to_be_bytes w32 (slice_index h n))))

-- every message has one digest
pub agreement : (m : List ℕ) → sha256 m ≡ their_sha256 m
unfolding sha256 their_sha256
agreement m =
    let count : ℕ = length (pad m) / 64 in
    let words : List ℕ = fold_blocks initial_words (pad m) count in
    let eight : length words ≡ 8 = length-fold_blocks initial_words (pad m) count refl in
    let whole : word_bytes words ≡ digest_bytes words 8 = ap word_bytes (sym (take_all 8 words (omega arith))) ∙ digests words 8 (omega arith) in
    let padded : pad m ≡ padded_message m = ap (λ (l : List ℕ). m ++ l) (paddings (length m)) in
    whole ∙ ap (λ (h : List ℕ). digest_bytes h 8) (all_blocks initial_words (pad m) count ∙ ap (λ (p : List ℕ). hash_after initial_words p (length p / 64)) padded)
