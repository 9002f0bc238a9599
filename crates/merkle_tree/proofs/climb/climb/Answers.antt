use Rattle.std.proofs.Common.{◌≡◌, [], get_or, false, sym, ◌∙◌, arith}
use Rattle.merkle_tree.proofs.Steps.{climb_end, climb_step}
use Rattle.merkle_tree.specs.Climb.{node_input}
use Rattle.merkle_tree.proofs.climb.climb.Goals as goal

pub each_sibling-preserved : goal.each_sibling-preserved
each_sibling-preserved g c =
    let sides = c.args.sides.now in
    let path = c.args.path.now in
    let l = c.each_sibling in
    let above : c.parent-node.result ≡ g.H.TreeHash.hash (node_input (get_or sides l.h false) l.node (get_or path l.h [])) = rw (← c.is_left.ensures) c.parent-node.ensures in
    rw above (sym (climb_step g.H.TreeHash.hash l.node sides path l.h (omega arith) (omega arith)) ∙ l.invariant)

pub returns : goal.returns
returns g c = sym (climb_end g.H.TreeHash.hash c.each_sibling.node c.args.sides.now c.args.path.now c.each_sibling.h (omega arith)) ∙ c.each_sibling.invariant
