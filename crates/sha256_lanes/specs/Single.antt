-- Sixteen words of a schedule, four in each vector.
use Rattle.std.specs.Prelude.{ℕ, List, [], ◌∷◌}
use Rattle.sha256_lanes.specs.Eight.{word_in}
use Rattle.sha256_lanes.specs.declared.single.Fours.{Fours}

-- the words as a list
abbrev pub fours : Fours → List ℕ
fours w =
    word_in w.first 0 ∷ word_in w.first 1 ∷ word_in w.first 2 ∷ word_in w.first 3
    ∷ word_in w.second 0 ∷ word_in w.second 1 ∷ word_in w.second 2 ∷ word_in w.second 3
    ∷ word_in w.third 0 ∷ word_in w.third 1 ∷ word_in w.third 2 ∷ word_in w.third 3
    ∷ word_in w.fourth 0 ∷ word_in w.fourth 1 ∷ word_in w.fourth 2 ∷ word_in w.fourth 3 ∷ []
