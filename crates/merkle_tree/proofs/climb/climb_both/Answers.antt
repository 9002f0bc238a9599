use Rattle.std.proofs.Common.{◌≡◌, [], get_or, false, sym, ◌∙◌, arith}
use Rattle.merkle_tree.proofs.Steps.{climb_end, climb_left_step, climb_right_step, climb_step, left_end}
use Rattle.merkle_tree.specs.Climb.{node_input}
use Rattle.merkle_tree.proofs.climb.climb_both.Goals.{then-left, else-left}
use Rattle.merkle_tree.proofs.climb.climb_both.Goals as goal

pub each_sibling-preserved : goal.each_sibling-preserved
each_sibling-preserved g c =
    let sides = c.args.sides.now in
    let path = c.args.path.now in
    let l = c.each_sibling in
    let above : c.parent-second.result ≡ g.H.TreeHash.hash (node_input (get_or sides l.h false) l.second (get_or path l.h [])) = rw (← c.is_left-left.ensures) c.parent-second.ensures in
    elim c.if-left.branch [
      | then-left w ↦ record {
        first = rw (w.first-is, w.node-first.ensures) (sym (climb_left_step g.H.TreeHash.hash l.first sides path l.h (omega arith) (omega arith) (sym c.is_left-left.ensures ∙ w.if-left.true)) ∙ l.invariant.first);
        second = rw above (sym (climb_step g.H.TreeHash.hash l.second sides path l.h (omega arith) (omega arith)) ∙ l.invariant.second);
      }
      | else-left w ↦ record {
        first = rw w.first-is (sym (climb_right_step g.H.TreeHash.hash l.first sides path l.h (omega arith) (omega arith) (sym c.is_left-left.ensures ∙ w.if-left.false)) ∙ l.invariant.first);
        second = rw above (sym (climb_step g.H.TreeHash.hash l.second sides path l.h (omega arith) (omega arith)) ∙ l.invariant.second);
      }
    ]

pub returns-clause-old_root : goal.returns-clause-old_root
returns-clause-old_root g c = sym (left_end g.H.TreeHash.hash c.each_sibling.first c.args.sides.now c.args.path.now c.each_sibling.h (omega arith)) ∙ c.each_sibling.invariant.first

pub returns-clause-new_root : goal.returns-clause-new_root
returns-clause-new_root g c = sym (climb_end g.H.TreeHash.hash c.each_sibling.second c.args.sides.now c.args.path.now c.each_sibling.h (omega arith)) ∙ c.each_sibling.invariant.second
