use Rattle.std.proofs.Common.{◌≡◌, ℕ, ◌+◌, ◌-◌, ◌*◌, List, length, take, drop, sym, ap, subst, ◌∙◌, arith}
use Rattle.std.specs.List.{flat_map}
use Rattle.log_tiles.proofs.Rows.{last_hashes}
use Rattle.log_tiles.specs.Tiles.{AreTilesOf, Tiles, hash_count, last_width}
use Rattle.log_tiles.proofs.growing.GrowingTiles.last_bytes.Goals as goal

pub returns : goal.returns
returns g c = λ q are.
    let places = c.self.inside.hashes in
    let here : AreTilesOf g.H.TreeHash.hash (record { count = c.self.inside.count; hashes = places }) q
    = subst (λ (t : Tiles). AreTilesOf g.H.TreeHash.hash t q) (sym c.self.view_is) are in
    let start = 256 * c.args.level in
    let width : start + c.last_width.result - start ≡ last_width (hash_count c.args.level (length q))
    = omega (arith, c.last_width.ensures.value, ap (λ n. last_width (hash_count c.args.level n)) are.count) in
    c.as_flattened.ensures.value
    ∙ ap (λ n. flat_map (λ (x : List ℕ). x) (take n (drop start places))) width
    ∙ ap (flat_map (λ (x : List ℕ). x)) (last_hashes g.H.TreeHash.hash _ q c.args.level here c.requires c.self.invariant)
