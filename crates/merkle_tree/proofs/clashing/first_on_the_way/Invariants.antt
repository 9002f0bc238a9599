use Rattle.std.proofs.Common.{◌≡◌}
use Rattle.merkle_tree.proofs.WaySteps.{clash_from, place_from}
use Rattle.merkle_tree.specs.Binding.{climb_pairs}
use Rattle.merkle_tree.specs.Clashes.{clash_place, first_clash}
use Rattle.merkle_tree.specs.Climb.{inputs_along}
use Rattle.merkle_tree.proofs.clashing.first_on_the_way.Given as goal

-- the rest of the ways has the first clash
abbrev pub invariant-each_side : goal.invariant-each_side
invariant-each_side g l =
    let H = g.H.TreeHash.hash in
    record {
      place : place_from H l.node_x l.node_y l.sides l.path_x l.path_y l.h ≡ clash_place H (inputs_along H l.x l.sides l.path_x) (inputs_along H l.y l.sides l.path_y);
      clash : clash_from H l.node_x l.node_y l.sides l.path_x l.path_y l.h ≡ first_clash H (climb_pairs H l.x l.y l.sides l.path_x l.path_y);
    }
