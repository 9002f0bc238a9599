use Rattle.std.proofs.Common.{◌+◌, ◌<◌, ◌^◌, ap, arith}
use Rattle.log_files.proofs.FullNames.{one_pushed}
use Rattle.log_files.proofs.Levels.{few, on_ok}
use Rattle.log_tiles.specs.Tiles.{Tiles}
use Rattle.log_files.proofs.appending.Appending.push.Goals as goal

pub put_tiles-requires : goal.put_tiles-requires
put_tiles-requires g c = omega (arith, c.push-full.ensures.full, few 7 (c.args.self.now.tiles.count + 1))

pub returns-clause-names : goal.returns-clause-names
returns-clause-names g c =
    let n = c.args.self.now.tiles.count in
    let full = c.in_ok-put_full_bundle.ensures in
    let tiles = c.put_tiles.ensures in
    let low : n + 1 < 2 ^ 64 = omega (arith, c.push-full.ensures.count, c.if-len.false, c.len.ensures, c.len.type_inv) in
    on_ok c.put_tiles.result (λ names are.
    one_pushed g.H.TreeHash.hash n c.push-full.new.self.count c.put_full_bundle.new.self.tiles.count c.put_tiles.new.self.tiles.count _ _ _ _ _ _ _ _ low
    c.push-full.ensures.count (ap (λ (t : Tiles). t.count) full.tiles) (ap (λ (t : Tiles). t.count) tiles.tiles)
    c.push-full.ensures.full full.put (ap (λ b. b.items) tiles.bundles) (ap (λ b. b.items) full.full) names are)
    tiles.names
