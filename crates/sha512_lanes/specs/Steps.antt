-- How far the rounds of a block have come, with the sixteen words that are at hand.
use Rattle.std.specs.Prelude.{◌≡◌, ℕ, List, [], ◌∷◌, take, drop}
use Rattle.sha2.specs.Sha512.{add64, rounds, schedule, small_sigma0, small_sigma1, word_at}

-- the sixteen words of the schedule from index t on
unfoldable pub words_from : List ℕ → ℕ → List ℕ
words_from b t = take 16 (drop t (schedule b 64))

-- a word of the schedule from those 16, 15, 7 and 2 places before it
abbrev pub next_in : ℕ → ℕ → ℕ → ℕ → ℕ
next_in w0 w1 w9 w14 = add64 (add64 (add64 (small_sigma1 w14) w9) (small_sigma0 w1)) w0

-- the sixteen words of block b
abbrev pub block_words : List ℕ → List ℕ
block_words b =
    word_at b 0 ∷ word_at b 8 ∷ word_at b 16 ∷ word_at b 24
    ∷ word_at b 32 ∷ word_at b 40 ∷ word_at b 48 ∷ word_at b 56
    ∷ word_at b 64 ∷ word_at b 72 ∷ word_at b 80 ∷ word_at b 88
    ∷ word_at b 96 ∷ word_at b 104 ∷ word_at b 112 ∷ word_at b 120 ∷ []

-- before round t of block b from the hash value h: v has the working variables, and w the words of
-- this round and the fifteen after it
abbrev pub IsBefore : List ℕ → List ℕ → ℕ → List ℕ → List ℕ → Type 0
IsBefore h b t v w = (v ≡ rounds h (schedule b 64) t) × (w ≡ words_from b t)
