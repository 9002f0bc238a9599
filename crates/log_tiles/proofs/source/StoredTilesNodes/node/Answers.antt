use Rattle.std.proofs.Common.{◌+◌, ◌*◌, ◌^◌, ◌<◌, ◌≤◌, ◌∙◌, refl, rules, subst, arith}
use Rattle.std.proofs.lemmas.List.FromFn.{length-map-range_with_len}
use Rattle.log_tiles.proofs.Places.{hashes_inside, height_fits}
use Rattle.log_tiles.proofs.Told.{under_told}
use Rattle.log_tiles.specs.Source.{first_digests}
use Rattle.log_tiles.proofs.source.StoredTilesNodes.node.Goals as goal

pub node_place-place-requires : goal.node_place-place-requires
node_place-place-requires g c =
    let n = c.args.self.now.size in
    let fits : n < 2 ^ 64 = search rules in
    let asked : (c.args.index + 1) * 2 ^ c.args.level ≤ n = subst (λ k. (c.args.index + 1) * 2 ^ c.args.level ≤ k) (length-map-range_with_len (g.S.TileSource.digest c.args.self.now.source.now) 0 n) c.requires in
    height_fits c.args.level c.args.index n asked fits

pub tile_at-tile-requires-clause-level : goal.tile_at-tile-requires-clause-level
tile_at-tile-requires-clause-level g c =
    let n = c.args.self.now.size in
    let fits : n < 2 ^ 64 = search rules in
    let asked : (c.args.index + 1) * 2 ^ c.args.level ≤ n = subst (λ k. (c.args.index + 1) * 2 ^ c.args.level ≤ k) (length-map-range_with_len (g.S.TileSource.digest c.args.self.now.source.now) 0 n) c.requires in
    let low : c.args.level < 64 = height_fits c.args.level c.args.index n asked fits in
    omega (arith, low, c.node_place-place.ensures.level)

pub tile_at-tile-requires-clause-inside : goal.tile_at-tile-requires-clause-inside
tile_at-tile-requires-clause-inside g c =
    let n = c.args.self.now.size in
    let asked : (c.args.index + 1) * 2 ^ c.args.level ≤ n = subst (λ k. (c.args.index + 1) * 2 ^ c.args.level ≤ k) (length-map-range_with_len (g.S.TileSource.digest c.args.self.now.source.now) 0 n) c.requires in
    let p = c.node_place-place.ensures in
    rw (p.level, p.index, p.start, p.len) (hashes_inside c.args.level c.args.index n asked)

pub returns-clause-root : goal.returns-clause-root
returns-clause-root g c = λ t.
    let size = c.args.self.now.size in
    let digest = g.S.TileSource.digest c.args.self.now.source.now in
    let place = c.node_place-place in
    let tile = c.tile_at-tile in
    c.node_root.ensures (first_digests digest size) c.requires
    (under_told g.H.TreeHash.hash digest size c.args.level c.args.index place.result.start place.result.len tile.result c.read.new.out _
    (c.if-not-read.ensures.told t (search rules)) tile.ensures.piece (tile.ensures.level ∙ place.ensures.level)
    (tile.ensures.index ∙ place.ensures.index) place.ensures.start place.ensures.len tile.ensures.within refl)
