use Rattle.std.proofs.Common.{◌≤◌, ◌*◌, ◌∙◌, length, slice_index, ap, arith, refl, sym}
use Rattle.slh_core.specs.Bytes.{joined, part}
use Rattle.slh_hash.specs.Sha2.{tweaked_hash_512}
use Rattle.slh_hash.proofs.Grouped.{group_done_512, group_within, groups_done, length-cut, none_done}
use Rattle.slh_hash.proofs.rows_512.hash_pairs_512.Goals as goal

pub loop-done-init : goal.loop-done-init
unfolding joined
loop-done-init g c = record { hashes = none_done g.N.ArraySize.USIZE c.args.out.now; within = omega arith; cost = omega arith }

pub digests_of_512-digests-requires-clause-whole : goal.digests_of_512-digests-requires-clause-whole
digests_of_512-digests-requires-clause-whole g c =
    c.parts_between-inputs.ensures.len ∙ ap (λ q. q * (2 * c.USIZE-width.result)) (sym (length-cut c.args.numbers.now c.loop-done.done c.min-end.result (omega (arith, c.min-end.ensures)) (omega (arith, c.min-end.ensures))))

pub loop-done-preserved : goal.loop-done-preserved
loop-done-preserved g c =
    let n = g.N.ArraySize.USIZE in
    let low : c.loop-done.done ≤ c.min-end.result = omega (arith, c.min-end.ensures) in
    let high : c.min-end.result ≤ length c.args.numbers.now = omega (arith, c.min-end.ensures) in
    record {
      hashes = group_done_512 (g.A.RowAddress.numbered c.args.adrs.now) n (2 * c.USIZE-width.result) (2 * n) c.loop-done.done c.min-end.result c.args.keyed.now.keyed.pk_seed c.args.numbers.now c.args.pairs.now c.args.pairs.now c.parts_between-inputs.result.now c.loop-done.out c.put_hashes_between.new.out c.digests_of_512-digests.result (ap (λ q. 2 * q) c.USIZE-width.ensures) low high c.parts_between-inputs.ensures.value refl c.digests_of_512-digests.ensures c.put_hashes_between.ensures.front c.loop-done.invariant.hashes;
      within = high;
      cost = omega (arith, low, c.put_hashes_between.ensures.step, c.loop-done.invariant.cost);
    }

pub returns-clause-value : goal.returns-clause-value
returns-clause-value g c =
    groups_done (λ k. tweaked_hash_512 g.N.ArraySize.USIZE c.args.keyed.now.keyed.pk_seed (g.A.RowAddress.numbered c.args.adrs.now (slice_index c.args.numbers.now k)) (part (2 * g.N.ArraySize.USIZE) c.args.pairs.now k)) g.N.ArraySize.USIZE c.loop-done.done (length c.args.numbers.now) c.loop-done.out c.loop-done.invariant.hashes c.loop-done.invariant.within c.loop-done-test.false (c.loop-done.auto.out ∙ c.requires.room)

pub parts_between-inputs-requires : goal.parts_between-inputs-requires
parts_between-inputs-requires g c = record {
  order = omega (arith, c.min-end.ensures, c.loop-done-test.true);
  inside = group_within (2 * g.N.ArraySize.USIZE) (2 * c.USIZE-width.result) c.min-end.result (length c.args.numbers.now) (length c.args.pairs.now) (ap (λ q. 2 * q) c.USIZE-width.ensures) (omega (arith, c.min-end.ensures)) c.requires.pairs;
}
