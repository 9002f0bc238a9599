-- What is seen of working variables and of windows of words, in one lane of each word.
use Rattle.std.specs.Prelude.{◌≡◌, ℕ, ◌+◌, List, [], ◌∷◌, slice_index}
use Rattle.sha256_lanes.specs.Rounds.{block_words, rounds_until, share_in}
use Rattle.sha256_lanes.specs.Sha256.{constants, round}
use Rattle.sha256_lanes.specs.declared.compression.Opening.{Opening}
use Rattle.sha256_lanes.specs.declared.compression.Variables.{Variables}
use Rattle.sha256_lanes.specs.declared.compression.Window.{Window}

-- the eight working variables as a list, by what is seen of each
abbrev pub variables : {W : Type 0} → (W → ℕ) → Variables W → List ℕ
variables f v = f v.a ∷ f v.b ∷ f v.c ∷ f v.d ∷ f v.e ∷ f v.f ∷ f v.g ∷ f v.h ∷ []

-- the words of a window as a list
abbrev pub window : {W : Type 0} → (W → ℕ) → Window W → List ℕ
window f w =
    f w.w0 ∷ f w.w1 ∷ f w.w2 ∷ f w.w3 ∷ f w.w4 ∷ f w.w5 ∷ f w.w6 ∷ f w.w7
    ∷ f w.w8 ∷ f w.w9 ∷ f w.w10 ∷ f w.w11 ∷ f w.w12 ∷ f w.w13 ∷ f w.w14 ∷ f w.w15 ∷ []

-- the rounds of the first five words of block b were taken, and what these give to later words
abbrev pub IsOpened : {W : Type 0} → (W → ℕ) → List ℕ → Opening W → Type 0
IsOpened f b opening =
    let share : ℕ → ℕ = λ k. share_in (slice_index (block_words b) k) (slice_index (block_words b) (k + 1)) in
    (variables f opening.next
    ≡ round (rounds_until (variables f opening.state) b 5) (slice_index constants 5) 0)
    × (f opening.shares.0 ≡ share 0) × (f opening.shares.1 ≡ share 1)
    × (f opening.shares.2 ≡ share 2) × (f opening.shares.3 ≡ share 3)
