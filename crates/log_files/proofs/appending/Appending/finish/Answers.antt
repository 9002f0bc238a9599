use Rattle.std.proofs.Common.{ap}
use Rattle.log_files.proofs.FullNames.{one_finished}
use Rattle.log_tiles.specs.Tiles.{Tiles}
use Rattle.log_files.proofs.appending.Appending.finish.Goals as goal

pub returns-in-Ok-clause-names : goal.returns-in-Ok-clause-names
returns-in-Ok-clause-names g c = λ are.
    let bundle = c.in_ok-put_partial_bundle.ensures in
    let tiles = c.in_ok-put_partial_tiles.ensures in
    one_finished g.H.TreeHash.hash c.args.self.tiles.count c.put_partial_bundle.new.self.tiles.count _ _ _ _ _ _ _ _ bundle.count
    (ap (λ (t : Tiles). t.count) bundle.tiles) bundle.put (ap (λ b. b.items) tiles.bundles) (ap (λ b. b.items) bundle.full) tiles.names
    c.in-Ok.ensures.items are
