use Rattle.std.proofs.Common.{◌≡◌, ◌∙◌, ◌/◌, ◌<◌, false, ap, sym, subst, arith}
use Rattle.merkle_store.specs.Errors.{IsUngiven}
use Rattle.log_tiles.specs.Source.{tile_under, tile_with}
use Rattle.log_tiles.specs.declared.names.Tile.{Tile}
use Rattle.log_tiles.proofs.Places.{hashes_inside, height_fits}
use Rattle.log_tiles.proofs.proving.unread.Goals as goal

pub node_place-requires : goal.node_place-requires
node_place-requires g c =
    let e = c.in-Node in
    let has = g.S.TileSource.has c.args.source.now in
    let ungiven = subst (λ x. IsUngiven (λ height index. has (tile_under c.args.size height index)) c.args.size x) e.is c.requires in
    height_fits e.level e.index c.args.size ungiven.0 (omega (arith, c.ranges.size.fits))

pub tile_at-requires-clause-level : goal.tile_at-requires-clause-level
tile_at-requires-clause-level g c =
    let e = c.in-Node in
    let has = g.S.TileSource.has c.args.source.now in
    let ungiven = subst (λ x. IsUngiven (λ height index. has (tile_under c.args.size height index)) c.args.size x) e.is c.requires in
    let low : e.level < 64 = height_fits e.level e.index c.args.size ungiven.0 (omega (arith, c.ranges.size.fits)) in
    omega (arith, low, c.node_place.ensures.level)

pub tile_at-requires-clause-inside : goal.tile_at-requires-clause-inside
tile_at-requires-clause-inside g c =
    let e = c.in-Node in
    let has = g.S.TileSource.has c.args.source.now in
    let ungiven = subst (λ x. IsUngiven (λ height index. has (tile_under c.args.size height index)) c.args.size x) e.is c.requires in
    let p = c.node_place.ensures in
    rw (p.level, p.index, p.start, p.len) (hashes_inside e.level e.index c.args.size ungiven.0)

pub returns-in-Node-clause-tile : goal.returns-in-Node-clause-tile
returns-in-Node-clause-tile g c =
    let e = c.in-Node in
    let has = g.S.TileSource.has c.args.source.now in
    let ungiven = subst (λ x. IsUngiven (λ height index. has (tile_under c.args.size height index)) c.args.size x) e.is c.requires in
    let low : e.level < 64 = height_fits e.level e.index c.args.size ungiven.0 (omega (arith, c.ranges.size.fits)) in
    let p = c.node_place.ensures in
    let is : c.tile_at.result ≡ tile_under c.args.size e.level e.index = c.tile_at.ensures.tile
    ∙ ap (λ level. tile_with c.args.size level c.node_place.result.index) p.level
    ∙ ap (λ index. tile_with c.args.size (e.level / 8) index) p.index in
    (omega (arith, low, p.level, c.tile_at.ensures.level), c.tile_at.ensures.piece, subst (λ (t : Tile). has t ≡ false) (sym is) ungiven.1)
