use Rattle.std.proofs.Common.{◌≡◌, ◌+◌, ◌-◌, ap, sym, ◌∙◌, arith}
use Rattle.merkle_tree.proofs.Ways.{climb_is_along, enough}
use Rattle.merkle_tree.specs.Climb.{climb_along, path_sides}
use Rattle.merkle_tree.proofs.checking.path_root.Goals as goal

pub returns : goal.returns
returns g c =
    let H = g.H.TreeHash.hash in
    let i = c.args.index in
    let n = c.args.size in
    let whole : n - 1 + 1 ≡ n = omega arith in
    let sides : c.sides_of.result ≡ path_sides i n = c.sides_of.ensures ∙ ap (path_sides i) whole in
    c.climb.ensures
    ∙ ap (λ s. climb_along H c.args.leaf.now s c.args.path.now) sides
    ∙ sym (climb_is_along H n c.args.leaf.now i n c.args.path.now c.requires.inside (enough n) c.requires.whole)
