use Rattle.std.proofs.Common.{◌≡◌, ◌+◌, ◌-◌, ◌^◌, ◌<◌, ◌≤◌, ◌++◌, ℕ, List, length, IsTrue}
use Rattle.merkle_tree.specs.Tree.{path_within}
use Rattle.merkle_store.specs.Nodes.{IsLevel, full_level}
use Rattle.merkle_store.proofs.making.push_siblings.Given as goal

-- the siblings put so far, and those above the node that is reached
abbrev pub invariant-each_level : goal.invariant-each_level
invariant-each_level g l = record {
  within : l.level.whole ≤ length (full_level g.H.TreeHash.hash l.level.height (g.N.Nodes.digests l.nodes));
  high : l.level.height ≤ 64;
  few : l.end < 2 ^ (64 - l.level.height);
  inside : l.at ≤ l.end;
  value : IsTrue g.N.Nodes.tells → (level : List (List ℕ)) → IsLevel g.H.TreeHash.hash l.fn.from.height l.fn.from.whole l.fn.from.rest (g.N.Nodes.digests l.nodes) level → length level ≡ l.last + 1
      → (now : List (List ℕ)) × IsLevel g.H.TreeHash.hash l.level.height l.level.whole l.level.rest (g.N.Nodes.digests l.nodes) now × (length now ≡ l.end + 1)
      × (l.out.items ++ path_within g.H.TreeHash.hash 64 now l.at ≡ l.fn.out.items ++ path_within g.H.TreeHash.hash 64 level l.i);
}

abbrev pub decreases-each_level : goal.decreases-each_level
decreases-each_level g l = l.end
