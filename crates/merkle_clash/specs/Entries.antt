-- What a clash of entries is of.
use Rattle.std.specs.Prelude.{ℕ, List}
use Rattle.merkle_tree.specs.Clashes.{Inputs}
use Rattle.merkle_clash.specs.Answers.{entry_inputs}
use Rattle.merkle_clash.specs.declared.entries.EntryClash.{EntryClash}
use Rattle.merkle_clash.specs.declared.entries.EntryClash.TheVariants as clash

-- two entries, or what is told above them
abbrev pub inputs_in : List ℕ → List ℕ → EntryClash → Inputs
inputs_in m o clash.Entries = entry_inputs m o
inputs_in m o (clash.Nodes inputs) = inputs
