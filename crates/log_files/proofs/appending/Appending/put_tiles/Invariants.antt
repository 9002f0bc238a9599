use Rattle.std.proofs.Common.{◌≡◌, ◌++◌, List, ℕ, map}
use Rattle.log_files.specs.Appending.{named, of_levels, tile_files}
use Rattle.log_files.specs.Names.{PutNames}
use Rattle.log_tiles.specs.Tiles.{AreTilesOf}
use Rattle.log_files.proofs.appending.Appending.put_tiles.Given as goal

abbrev pub invariant-loop-level : goal.invariant-loop-level
invariant-loop-level g l =
    ((q : List (List ℕ)) → AreTilesOf g.H.TreeHash.hash l.fn.self.tiles q
    → map named l.self.full_tiles.items
    ≡ map named l.fn.self.full_tiles.items ++ of_levels (tile_files g.H.TreeHash.hash l.fn.self.tiles.count q) l.level)
    × (l.self.tiles ≡ l.fn.self.tiles)
    × (l.self.bundle ≡ l.fn.self.bundle)
    × (l.self.bundles ≡ l.fn.self.bundles)
    × ((q : List (List ℕ))
    → PutNames l.fn.self.full_tiles.items (of_levels (tile_files g.H.TreeHash.hash l.fn.self.tiles.count q) l.level) l.self.full_tiles.items)
