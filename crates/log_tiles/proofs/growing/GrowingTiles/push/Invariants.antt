use Rattle.std.proofs.Common.{◌-◌, ◌≡◌, ◌+◌, ◌^◌, ℕ, List, ◌*◌, ◌≤◌, length}
use Rattle.log_tiles.proofs.Rows.{IsCarried}
use Rattle.log_tiles.specs.Tiles.{AreTilesOf, full_within}
use Rattle.log_tiles.proofs.growing.GrowingTiles.push.Given as goal

-- the levels up to the one that is reached have the digest
abbrev pub invariant-each_level : goal.invariant-each_level
invariant-each_level g l = record {
  room : length l.self-inside.hashes ≡ 2048;
  few : l.level ≤ 7;
  count : l.self-inside.count ≡ l.fn.self.count;
  ends : l.fn.self.count + 1 ≡ (l.at + 1) * 2 ^ (8 * l.level);
  full : full_within 7 (l.fn.self.count + 1) ≡ l.level + full_within (7 - l.level) (l.at + 1);
  carried : (q : List (List ℕ)) → AreTilesOf g.H.TreeHash.hash l.fn.self q
      → IsCarried g.H.TreeHash.hash l.self-inside.hashes q l.digest (l.level + 1);
}

abbrev pub decreases-each_level : goal.decreases-each_level
decreases-each_level g l = 8 - l.level
