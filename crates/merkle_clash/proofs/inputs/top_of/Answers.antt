use Rattle.std.proofs.Common.{◌≡◌, ◌-◌, ◌*◌, ◌^◌, ◌∙◌, ◌≤◌, take, drop, length, refl, arith, length-take, length-drop}
use Rattle.merkle_tree.proofs.Ways.{enough, tree_any}
use Rattle.merkle_tree.specs.Tree.{tree_within}
use Rattle.merkle_clash.proofs.inputs.top_of.Goals as goal

pub returns : goal.returns
returns g c =
    let H = g.H.TreeHash.hash in
    let z = c.args.height - 1 in
    let s = 2 ^ z in
    let q = c.args.digests.now in
    let twice : 2 ^ c.args.height ≡ 2 * s = omega (arith, c.front_len.ensures.twice, c.front_len.ensures.value) in
    let early : length (take s q) ≤ 2 ^ z = omega (arith, length-take s q) in
    let late : length (drop s q) ≤ 2 ^ z = omega (arith, length-drop s q, c.requires.few, twice) in
    let front : c.root_of.result ≡ tree_within H z (take s q) = c.root_of.ensures ∙ rw (c.split_at.ensures.front, c.front_len.ensures.value) (tree_any H (length (take s q)) z (take s q) (enough (length (take s q))) early) in
    let rest : c.root_of-2.result ≡ tree_within H z (drop s q) = c.root_of-2.ensures ∙ rw (c.split_at.ensures.back, c.front_len.ensures.value) (tree_any H (length (drop s q)) z (drop s q) (enough (length (drop s q))) late) in
    rw (front, rest) refl
