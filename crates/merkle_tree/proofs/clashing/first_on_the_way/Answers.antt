use Rattle.std.proofs.Common.{◌≡◌, ◌∷◌, ◌&&◌, [], Some, true, false, not, get_or, refl, sym, ap, ◌∙◌, arith}
use Rattle.std.specs.Str.{bytes_eq}
use Rattle.merkle_tree.proofs.WaySteps.{clash_end, clash_here, clash_step, input_at, place_end, place_here, place_start, place_step}
use Rattle.merkle_tree.specs.Clashes.{Inputs, clashes}
use Rattle.merkle_tree.proofs.clashing.first_on_the_way.Goals as goal

pub each_side-init : goal.each_side-init
each_side-init g c =
    record {
      place = place_start g.H.TreeHash.hash c.args.x.now c.args.y.now c.args.sides.now c.args.path_x.now c.args.path_y.now;
      clash = refl;
    }

pub each_side-preserved : goal.each_side-preserved
each_side-preserved g c =
    let H = g.H.TreeHash.hash in
    let l = c.each_side in
    let sides = c.args.sides.now in
    let p = c.args.path_x.now in
    let r = c.args.path_y.now in
    let first : c.input_of-first.result ≡ input_at sides p l.h l.node_x = rw (← c.is_left-left.ensures) c.input_of-first.ensures in
    let second : c.input_of-second.result ≡ input_at sides r l.h l.node_y = rw (← c.is_left-left.ensures) c.input_of-second.ensures in
    let above_x : c.digest_of-above_x.result ≡ H (input_at sides p l.h l.node_x) = c.digest_of-above_x.ensures ∙ ap H first in
    let above_y : c.digest_of-above_y.result ≡ H (input_at sides r l.h l.node_y) = c.digest_of-above_y.ensures ∙ ap H second in
    let none : clashes H (input_at sides p l.h l.node_x) (input_at sides r l.h l.node_y) ≡ false
    = rw (← above_x, ← above_y, ← first, ← second, ← c.are_same.ensures) (sym c.is_clash.ensures ∙ c.if-is_clash.false) in
    record {
      place = rw (above_x, above_y) (sym (place_step H l.node_x l.node_y sides p r l.h (omega arith) (omega arith) (omega arith) none) ∙ l.invariant.place);
      clash = rw (above_x, above_y) (sym (clash_step H l.node_x l.node_y sides p r l.h (omega arith) (omega arith) (omega arith) none) ∙ l.invariant.clash);
    }

pub returns-then-is_clash : goal.returns-then-is_clash
returns-then-is_clash g c =
    let H = g.H.TreeHash.hash in
    let l = c.each_side in
    let sides = c.args.sides.now in
    let p = c.args.path_x.now in
    let r = c.args.path_y.now in
    let first : c.input_of-first.result ≡ input_at sides p l.h l.node_x = rw (← c.is_left-left.ensures) c.input_of-first.ensures in
    let second : c.input_of-second.result ≡ input_at sides r l.h l.node_y = rw (← c.is_left-left.ensures) c.input_of-second.ensures in
    let above_x : c.digest_of-above_x.result ≡ H (input_at sides p l.h l.node_x) = c.digest_of-above_x.ensures ∙ ap H first in
    let above_y : c.digest_of-above_y.result ≡ H (input_at sides r l.h l.node_y) = c.digest_of-above_y.ensures ∙ ap H second in
    let here : clashes H (input_at sides p l.h l.node_x) (input_at sides r l.h l.node_y) ≡ true
    = rw (← above_x, ← above_y, ← first, ← second, ← c.are_same.ensures) (sym c.is_clash.ensures ∙ c.if-is_clash.true) in
    record {
      low = omega arith;
      height = sym l.invariant.place ∙ place_here H l.node_x l.node_y sides p r l.h (omega arith) (omega arith) (omega arith) here;
      inputs = sym l.invariant.clash ∙ clash_here H l.node_x l.node_y sides p r l.h (omega arith) (omega arith) (omega arith) here ∙ rw (first, second) refl;
    }

pub returns-clause-height : goal.returns-clause-height
returns-clause-height g c =
    let l = c.each_side in
    sym l.invariant.place ∙ place_end g.H.TreeHash.hash l.node_x l.node_y c.args.sides.now c.args.path_x.now c.args.path_y.now l.h (omega arith)

pub returns-clause-inputs : goal.returns-clause-inputs
returns-clause-inputs g c =
    let l = c.each_side in
    sym l.invariant.clash ∙ clash_end g.H.TreeHash.hash l.node_x l.node_y c.args.sides.now c.args.path_x.now c.args.path_y.now l.h (omega arith)
