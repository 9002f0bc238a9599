use Rattle.std.proofs.Common.{◌≡◌, ◌+◌, ◌-◌, ◌^◌, ◌<◌, ◌≤◌, ℕ, List, length, take, true, IsTrue}
use Rattle.merkle_tree.specs.Consistency.{consistency_within}
use Rattle.merkle_store.specs.Nodes.{IsLevel, full_level}
use Rattle.merkle_store.proofs.making.push_proof.Given as goal

-- the proof from the level that is reached is the same
abbrev pub invariant-each_level : goal.invariant-each_level
invariant-each_level g l = record {
  within : l.level.whole ≤ length (full_level g.H.TreeHash.hash l.level.height (g.N.Nodes.digests l.nodes));
  high : l.level.height ≤ 64;
  few : l.end < 2 ^ (64 - l.level.height);
  inside : l.at < l.end;
  value : IsTrue g.N.Nodes.tells → (now : List (List ℕ)) × IsLevel g.H.TreeHash.hash l.level.height l.level.whole l.level.rest (g.N.Nodes.digests l.nodes) now × (length now ≡ l.end + 1)
      × (consistency_within g.H.TreeHash.hash 64 now (l.at + 1) true ≡ consistency_within g.H.TreeHash.hash 64 (take l.n (g.N.Nodes.digests l.nodes)) l.m true);
}

abbrev pub decreases-each_level : goal.decreases-each_level
decreases-each_level g l = l.at
