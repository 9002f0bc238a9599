use Rattle.std.proofs.Common.{◌∙◌, ap, sym}
use Rattle.log_tiles.specs.Shape.{last_tile}
use Rattle.log_files.proofs.FullNames.{tile_named}
use Rattle.log_files.proofs.Levels.{on_ok, tile_put}
use Rattle.log_files.proofs.appending.Appending.put_tile.Goals as goal

pub returns-clause-put : goal.returns-clause-put
returns-clause-put g c =
    on_ok c.put_file.result (λ put q are.
    tile_put g.H.TreeHash.hash q c.args.self.now.tiles.count c.args.level c.in-Some.tile _ _ _ (ap (last_tile c.args.level) (sym c.len.ensures) ∙ sym c.in-Some.ensures) put
    c.in-Ok.ensures.name (c.in_ok-bytes.ensures.items ∙ c.last_bytes.ensures q are))
    c.put_file.ensures.put

pub returns-clause-names : goal.returns-clause-names
returns-clause-names g c =
    on_ok c.put_file.result (λ put q.
    tile_named g.H.TreeHash.hash q c.args.self.now.tiles.count c.args.level c.in-Some.tile _ _ _ (ap (last_tile c.args.level) (sym c.len.ensures) ∙ sym c.in-Some.ensures) put
    c.in-Ok.ensures.name)
    c.put_file.ensures.put
