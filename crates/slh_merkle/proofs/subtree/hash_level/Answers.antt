use Rattle.std.proofs.Common.{rules, arith, ◌≡◌, ◌∙◌, ◌+◌, ◌*◌, ◌≤◌, ap, refl, ℕ, List, length, take, slice_index}
use Rattle.std.proofs.lemmas.List.{length-replicate, length-take}
use Rattle.slh_core.specs.Bytes.{joined, part}
use Rattle.slh_core.specs.Suite.{HasLength}
use Rattle.slh_core.proofs.Joins.{length-joined, part-joined}
use Rattle.slh_merkle.proofs.Rows.{part_front, part_of_front}
use Rattle.slh_merkle.proofs.subtree.hash_level.Goals as goal

pub h_each-requires-clause-small : goal.h_each-requires-clause-small
h_each-requires-clause-small g c = c.chain_sizes.ensures.n_high

pub h_each-requires-clause-pairs : goal.h_each-requires-clause-pairs
h_each-requires-clause-pairs g c =
    let few : length c.number_from.new.numbers ≡ c.args.count = search rules in
    rw few (omega (arith, c.row_size-size.ensures.value, c.requires.room, length-take {A = ℕ}))

pub h_each-requires-clause-room : goal.h_each-requires-clause-room
h_each-requires-clause-room g c =
    let few : length c.number_from.new.numbers ≡ c.args.count = search rules in
    rw few (omega (arith, c.row_size-size.ensures.value, c.row_size-size.ensures.small, c.requires.few, length-take {A = ℕ}, length-replicate {A = ℕ}))

pub returns-clause-parents : goal.returns-clause-parents
returns-clause-parents g c = λ k below.
    let K = g.P.HashSuite.keyed_suite c.args.keyed.now in
    let n = g.P.N.ArraySize.USIZE in
    let law : HasLength K.suite n = rw (g.met.P.HashSuite.keyed_suite_is c.args.keyed.now) (g.met.P.HashSuite.lengths c.chain_sizes.ensures.n_high) in
    let old = c.args.nodes.now in
    let count = c.args.count in
    let numbers = c.number_from.new.numbers in
    let size = c.row_size-size.result in
    let pairs = take (2 * size) old in
    let few : length numbers ≡ count = search rules in
    let parent : ℕ → List ℕ = λ q. K.suite.h K.seed (g.A.RowAddress.numbered c.at_node-at.result (slice_index numbers q)) (part n pairs (2 * q)) (part n pairs (2 * q + 1)) in
    let made : c.copy_from_slice.new.self ≡ joined parent count = c.copy_from_slice.ensures.after ∙ c.h_each.ensures.value ∙ ap (joined parent) few in
    let sizes : (q : ℕ) → length (parent q) ≡ n = λ q. law.h _ _ _ _ in
    let long : length c.copy_from_slice.new.self ≡ count * n = rw made (length-joined parent n count sizes) in
    let whole : 2 * size ≡ (2 * count) * n = rw c.row_size-size.ensures.value (omega arith) in
    let fits : (2 * count) * n ≤ length old = omega arith in
    let left : part n pairs (2 * k) ≡ part n old (2 * k) = rw whole (part_of_front n (2 * count) (2 * k) old (omega arith) fits) in
    let right : part n pairs (2 * k + 1) ≡ part n old (2 * k + 1) = rw whole (part_of_front n (2 * count) (2 * k + 1) old (omega arith) fits) in
    part_front n count k c.copy_from_slice.new.self _ long below
    ∙ ap (λ xs. part n xs k) made
    ∙ part-joined parent n count k sizes below
    ∙ rw (left, right, c.at_node-at.ensures.row, c.number_from.ensures k (omega arith)) refl
