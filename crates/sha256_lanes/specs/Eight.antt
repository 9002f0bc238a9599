-- What is seen of eight values, and of eight heads, in one lane of their words.
use Rattle.std.specs.Prelude.{◌≡◌, ℕ, ◌+◌, ◌-◌, ◌*◌, ◌/◌, ◌%◌, ◌^◌, ◌<◌, List, [], ◌∷◌, ◌++◌}
use Rattle.std.specs.Prelude.{length, take, replicate, slice_index}
use Rattle.std.specs.Int.{to_be_bytes, w64}
use Rattle.sha256_lanes.specs.Lanes.{variables}
use Rattle.sha256_lanes.specs.Sha256.{word_bytes}
use Rattle.sha256_lanes.specs.declared.lanes.Eight.{Eight}
use Rattle.sha256_lanes.specs.declared.lanes.Heads.{Heads}

-- a block of 64 bytes
abbrev pub IsBlock : List ℕ → Type 0
IsBlock block = (length block ≡ 64) × ((k : ℕ) → slice_index block k < 256)

-- the word in lane j
abbrev pub word_in : List ℕ → ℕ → ℕ
word_in lanes j = slice_index lanes j % 2 ^ 32

-- the 32 bytes of the value in lane j
unfoldable pub lane_bytes : Eight → ℕ → List ℕ
lane_bytes values j = word_bytes (variables (λ lanes. word_in lanes j) values.words)

-- the words of the head in lane j
abbrev pub head_words : Heads → ℕ → List ℕ
head_words heads j =
    word_in heads.w0 j ∷ word_in heads.w1 j ∷ word_in heads.w2 j
    ∷ word_in heads.w3 j ∷ word_in heads.w4 j ∷ word_in heads.w5 j ∷ []

-- the 22 bytes of the head in lane j: five words and the first half of another
unfoldable pub head_bytes : Heads → ℕ → List ℕ
head_bytes heads j = take 22 (word_bytes (head_words heads j))

-- the last half of one word, and the first half of the next
abbrev pub middle_word : ℕ → ℕ → ℕ
middle_word x y = x % 2 ^ 16 * 2 ^ 16 + y / 2 ^ 16

-- the first half of one word, and the first half of another
abbrev pub front_word : ℕ → ℕ → ℕ
front_word x y = x / 2 ^ 16 * 2 ^ 16 + y / 2 ^ 16

-- the words of n bytes of a value, the bit 1 after them, and zeros: nine words
abbrev pub ended_words : ℕ → List ℕ → List ℕ
ended_words n words = take 9 (take (n / 4) words ++ 2 ^ 31 ∷ replicate 8 0)

-- the last block of a message of so many bytes, which ends with these: they leave room for the
-- padding
abbrev pub ended_block : List ℕ → ℕ → List ℕ
ended_block bytes count =
    take 56 (bytes ++ 0x80 ∷ replicate (63 - length bytes) 0)
    ++ to_be_bytes w64 (8 * count % 2 ^ 64)
