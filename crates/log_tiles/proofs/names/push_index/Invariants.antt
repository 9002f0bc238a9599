use Rattle.std.proofs.Common.{◌≡◌, ◌/◌, ◌++◌, string_bytes, ℕ, take}
use Rattle.std.specs.List.{flat_map}
use Rattle.log_tiles.specs.Names.{group_text}
use Rattle.log_tiles.proofs.names.push_index.Given as goal

-- the groups so far
abbrev pub invariant-loop-power : goal.invariant-loop-power
invariant-loop-power l =
    string_bytes l.text ≡ string_bytes l.fn.text ++ flat_map (λ (power : ℕ). group_text (l.index / power)) (take l.power-index l.power-items)
