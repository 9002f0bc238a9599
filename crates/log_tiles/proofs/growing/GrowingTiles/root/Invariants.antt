use Rattle.std.proofs.Common.{◌≡◌, ◌/◌, ◌^◌, ◌≤◌, ℕ, List}
use Rattle.log_tiles.proofs.Bits.{IsRest}
use Rattle.log_tiles.specs.Tiles.{AreTilesOf}
use Rattle.log_tiles.proofs.growing.GrowingTiles.root.Given as goal

-- the root over the digests behind those that whole runs of 2 ^ height leave
abbrev pub invariant-each_bit : goal.invariant-each_bit
invariant-each_bit g l = record {
  left : l.left ≡ l.self.count / 2 ^ l.height;
  high : l.height ≤ 64;
  rest : (q : List (List ℕ)) → AreTilesOf g.H.TreeHash.hash l.self q → IsRest g.H.TreeHash.hash q l.height l.rest;
}

abbrev pub decreases-each_bit : goal.decreases-each_bit
decreases-each_bit g l = l.left
