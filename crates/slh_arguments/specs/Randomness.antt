-- What randomizers are made from.
use Rattle.std.specs.Prelude.{ℕ, List, Option, take}
use Rattle.std.specs.Option.{option_map}
use Rattle.slh_arguments.specs.declared.randomness.Randomness.{Randomness}

-- the first n bytes of what was drawn, or nothing
abbrev pub random_of : ℕ → Randomness → Option (List ℕ)
random_of n randomness = option_map (take n) randomness.0
