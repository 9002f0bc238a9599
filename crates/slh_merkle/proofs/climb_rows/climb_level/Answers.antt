use Rattle.std.proofs.Common.{ℕ, arith, ◌≡◌, ◌+◌, ◌*◌, ◌/◌, ◌%◌, ◌∙◌, length, drop, slice_index}
use Rattle.std.specs.Prelude.{◌==◌}
use Rattle.std.proofs.lemmas.List.{length-replicate, length-take}
use Rattle.slh_core.specs.Bytes.{part}
use Rattle.slh_core.proofs.Joins.{joined_same}
use Rattle.slh_merkle.specs.Fors.{fors_place}
use Rattle.slh_merkle.specs.Merkle.{node_bytes}
use Rattle.slh_merkle.proofs.Ascents.{hashed_in_order}
use Rattle.slh_merkle.proofs.climb_rows.climb_level.Goals as goal

pub h_each-requires-clause-small : goal.h_each-requires-clause-small
h_each-requires-clause-small g c = c.forest_sizes.ensures.n_high

pub h_each-requires-clause-pairs : goal.h_each-requires-clause-pairs
h_each-requires-clause-pairs g c =
    let size : length c.halve.new.indices ≡ g.P.ForsSizes.K = omega arith in
    rw size (omega (arith, c.pairs_len.ensures.value, c.pairs_len.ensures.small, c.pair_nodes.auto.pairs, length-take {A = ℕ}, length-replicate {A = ℕ}))

pub h_each-requires-clause-room : goal.h_each-requires-clause-room
h_each-requires-clause-room g c =
    let size : length c.halve.new.indices ≡ g.P.ForsSizes.K = omega arith in
    rw size c.requires.room

pub returns : goal.returns
returns g c =
    let K = g.P.HashSuite.keyed_suite c.args.keyed.now in
    let B = fors_place c.args.adrs.now.tree_adrs_low c.args.adrs.now.key_pair_adrs in
    let n = g.P.N.ArraySize.USIZE in
    let trees = g.P.ForsSizes.K in
    let size : length c.halve.new.indices ≡ trees = omega arith in
    record {
      indices = λ i low. c.halve.ensures i (omega (arith, low, c.requires.count));
      cost = rw size at c.h_each.ensures.step;
      value = (rw size at c.h_each.ensures.value)
          ∙ joined_same _ _ trees (λ i low.
          let index = slice_index c.args.indices.now i in
          let at = node_bytes B (c.args.z + 1) (index / 2) in
          let beside = part n (drop n (part ((1 + g.P.ForsSizes.A) * n) c.args.sig.now i)) c.args.z in
          rw (c.at_node-at.ensures.row, c.halve.ensures i (omega arith))
          (hashed_in_order (K.suite.h K.seed at) (part n c.args.nodes.now i) beside _ _ (index % 2 == 0) (c.pair_nodes.ensures.left i low) (c.pair_nodes.ensures.right i low)));
    }
