use Rattle.std.proofs.Common.{◌∙◌, refl}
use Rattle.log_files.proofs.FullNames.{level_named, no_levels_named}
use Rattle.log_files.proofs.Levels.{level_more, no_levels}
use Rattle.log_files.specs.Appending.{partial_files}
use Rattle.log_files.proofs.appending.Appending.put_partial_tiles.Goals as goal

pub loop-level-init : goal.loop-level-init
loop-level-init g c = (λ q are. no_levels _ _, refl, refl, λ q. no_levels_named _ _)

pub loop-level-preserved : goal.loop-level-preserved
loop-level-preserved g c =
    let before = c.loop-level.invariant in
    let put = c.in_ok-put_partial_tile.ensures in (
      λ q are. level_more g.H.TreeHash.hash (λ t q. partial_files g.H.TreeHash.hash t.count q) _ _ q _ _ _
          c.loop-level.level before.1 are (before.0 q are) put.put,
      put.tiles ∙ before.1,
      put.bundles ∙ before.2,
      λ q. level_named (λ t q. partial_files g.H.TreeHash.hash t.count q) _ _ q _ _ _
          c.loop-level.level before.1 (before.3 q) put.names,
    )
