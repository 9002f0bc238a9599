-- How far the rounds of a block have come, with the sixteen words that are at hand.
use Rattle.std.specs.Prelude.{◌≡◌, ℕ, List, [], ◌∷◌, take, drop, zip}
use Rattle.sha256_lanes.specs.Sha256.{block_word, constants, rounds, schedule}
use Rattle.sha256_lanes.specs.Sha256.{lower_sigma0, lower_sigma1, sum32}

-- the working variables after the first t rounds of block b, from the hash value h
unfoldable pub rounds_until : List ℕ → List ℕ → ℕ → List ℕ
rounds_until h b t = rounds h (take t (zip constants (schedule b 64)))

-- the sixteen words of the schedule from index t on
unfoldable pub words_from : List ℕ → ℕ → List ℕ
words_from b t = take 16 (drop t (schedule b 80))

-- a word of the schedule from those 16, 15, 7 and 2 places before it
abbrev pub next_in : ℕ → ℕ → ℕ → ℕ → ℕ
next_in w0 w1 w9 w14 = sum32 (sum32 (sum32 (lower_sigma1 w14) w9) (lower_sigma0 w1)) w0

-- what two words give to the word 16 places after the first
abbrev pub share_in : ℕ → ℕ → ℕ
share_in w0 w1 = sum32 (lower_sigma0 w1) w0

-- the sixteen words of block b
abbrev pub block_words : List ℕ → List ℕ
block_words b =
    block_word b 0 ∷ block_word b 4 ∷ block_word b 8 ∷ block_word b 12
    ∷ block_word b 16 ∷ block_word b 20 ∷ block_word b 24 ∷ block_word b 28
    ∷ block_word b 32 ∷ block_word b 36 ∷ block_word b 40 ∷ block_word b 44
    ∷ block_word b 48 ∷ block_word b 52 ∷ block_word b 56 ∷ block_word b 60 ∷ []

-- before round t of block b from the hash value h: v has the working variables, and w the words of
-- this round and the fifteen after it
abbrev pub IsBefore : List ℕ → List ℕ → ℕ → List ℕ → List ℕ → Type 0
IsBefore h b t v w = (v ≡ rounds_until h b t) × (w ≡ words_from b t)
