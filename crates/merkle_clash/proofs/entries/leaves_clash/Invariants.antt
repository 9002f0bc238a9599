use Rattle.std.proofs.Common.{◌≡◌, map, drop}
use Rattle.merkle_tree.specs.Binding.{entry_pairs}
use Rattle.merkle_tree.specs.Clashes.{first_clash}
use Rattle.merkle_clash.proofs.entries.leaves_clash.Given as goal

-- what is left decides
abbrev pub invariant-each_entry : goal.invariant-each_entry
invariant-each_entry g l =
    let H = g.H.TreeHash.hash in
    let p = map (λ entry. entry.now) l.a in
    let q = map (λ entry. entry.now) l.b in
    first_clash H (entry_pairs (drop l.k p) (drop l.k q)) ≡ first_clash H (entry_pairs p q)
