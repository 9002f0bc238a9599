use Rattle.std.proofs.Common.{◌≡◌, ◌+◌, ◌-◌, ◌*◌, ◌/◌, ◌%◌, ◌^◌, ◌≤◌, [], length, take, drop, get_or, sym, ap, subst, ◌∙◌, arith, length-take, length-drop}
use Rattle.std.proofs.lemmas.List.{get_or-drop, get_or-take}
use Rattle.merkle_tree.specs.Tree.{tree_root}
use Rattle.log_tiles.proofs.Spans.{last_is}
use Rattle.log_tiles.specs.Tiles.{AreTilesOf, Tiles}
use Rattle.log_tiles.proofs.growing.GrowingTiles.last_run.Goals as goal

pub returns : goal.returns
returns g c = λ q are.
    let H = g.H.TreeHash.hash in
    let places = c.self.inside.hashes in
    let here : AreTilesOf H (record { count = c.self.inside.count; hashes = places }) q
    = subst (λ (t : Tiles). AreTilesOf H t q) (sym c.self.view_is) are in
    let s = c.span_under-span in
    let r = c.args.height % 8 in
    let start = 256 * (c.args.height / 8) + s.result.start in
    let row = take (2 ^ r) (drop start places) in
    let width : start + s.result.len - start ≡ 2 ^ r = omega (arith, s.ensures.len) in
    let fits : (c.args.count - 1) * 2 ^ r % 256 + 2 ^ r ≤ 256 = omega (arith, s.ensures.fits, s.ensures.len, s.ensures.start) in
    let size : length row ≡ 2 ^ r = omega (arith, length-take (2 ^ r) (drop start places), length-drop start places, c.self.invariant, s.ensures.fits, s.ensures.len, c.requires.low) in
    let count : c.args.count ≡ c.self.inside.count / 2 ^ c.args.height = c.requires.count ∙ ap (λ (t : Tiles). t.count / 2 ^ c.args.height) (sym c.self.view_is) in
    c.root_of.ensures ∙ ap (λ n. tree_root H (take n (drop start places))) width
    ∙ last_is H (record { count = c.self.inside.count; hashes = places }) q row c.args.height c.args.count here c.requires.low count c.requires.odd size
    (λ x small.
    let place : start + x ≡ 256 * (c.args.height / 8) + ((c.args.count - 1) * 2 ^ r % 256 + x) = omega (arith, s.ensures.start) in
    get_or-take (2 ^ r) (drop start places) x [] small ∙ get_or-drop start places x [] ∙ ap (λ n. get_or places n []) place)
    fits
