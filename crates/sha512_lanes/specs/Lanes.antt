-- What is seen of working variables and of windows of words, in one lane of each word.
use Rattle.std.specs.Prelude.{ℕ, List, [], ◌∷◌}
use Rattle.sha512_lanes.specs.declared.compression.Variables.{Variables}
use Rattle.sha512_lanes.specs.declared.compression.Window.{Window}

-- the eight working variables as a list, by what is seen of each
abbrev pub variables : {W : Type 0} → (W → ℕ) → Variables W → List ℕ
variables f v = f v.a ∷ f v.b ∷ f v.c ∷ f v.d ∷ f v.e ∷ f v.f ∷ f v.g ∷ f v.h ∷ []

-- the words of a window as a list
abbrev pub window : {W : Type 0} → (W → ℕ) → Window W → List ℕ
window f w =
    f w.w0 ∷ f w.w1 ∷ f w.w2 ∷ f w.w3 ∷ f w.w4 ∷ f w.w5 ∷ f w.w6 ∷ f w.w7
    ∷ f w.w8 ∷ f w.w9 ∷ f w.w10 ∷ f w.w11 ∷ f w.w12 ∷ f w.w13 ∷ f w.w14 ∷ f w.w15 ∷ []
