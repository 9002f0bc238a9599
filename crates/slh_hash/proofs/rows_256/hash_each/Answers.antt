use Rattle.std.proofs.Common.{◌≤◌, ◌*◌, ◌∙◌, length, slice_index, ap, arith, refl, sym, drop}
use Rattle.slh_core.specs.Bytes.{joined, part}
use Rattle.slh_hash.specs.Sha2.{tweaked_hash_256}
use Rattle.slh_hash.proofs.Grouped.{group_done_256, group_left, group_within, groups_done, length-cut, none_done}
use Rattle.slh_hash.proofs.rows_256.hash_each.Goals as goal

pub loop-done-init : goal.loop-done-init
unfolding joined
loop-done-init g c = record { hashes = none_done g.N.ArraySize.USIZE c.args.values.now; rest = refl; within = omega arith; cost = omega arith }

pub digests_of-digests-requires-clause-whole : goal.digests_of-digests-requires-clause-whole
digests_of-digests-requires-clause-whole g c =
    c.parts_between-inputs.ensures.len ∙ ap (λ q. q * c.USIZE-n.result) (sym (length-cut c.args.numbers.now c.loop-done.done c.min-end.result (omega (arith, c.min-end.ensures)) (omega (arith, c.min-end.ensures))))

pub loop-done-preserved : goal.loop-done-preserved
loop-done-preserved g c =
    let n = g.N.ArraySize.USIZE in
    let low : c.loop-done.done ≤ c.min-end.result = omega (arith, c.min-end.ensures) in
    let high : c.min-end.result ≤ length c.args.numbers.now = omega (arith, c.min-end.ensures) in
    record {
      hashes = group_done_256 (g.A.RowAddress.numbered c.args.adrs.now) n c.USIZE-n.result n c.loop-done.done c.min-end.result c.args.keyed.now.pk_seed c.args.numbers.now c.loop-done.values c.args.values.now c.parts_between-inputs.result.now c.loop-done.values c.put_hashes_between.new.out c.digests_of-digests.result c.USIZE-n.ensures low high c.parts_between-inputs.ensures.value (ap (λ q. drop (c.loop-done.done * q) c.loop-done.values) c.USIZE-n.ensures ∙ c.loop-done.invariant.rest ∙ ap (λ q. drop (c.loop-done.done * q) c.args.values.now) (sym c.USIZE-n.ensures)) c.digests_of-digests.ensures c.put_hashes_between.ensures.front c.loop-done.invariant.hashes;
      rest = group_left n c.loop-done.done c.min-end.result c.loop-done.values c.put_hashes_between.new.out c.args.values.now low c.put_hashes_between.ensures.rest c.loop-done.invariant.rest;
      within = high;
      cost = omega (arith, low, c.put_hashes_between.ensures.step, c.loop-done.invariant.cost);
    }

pub returns-clause-value : goal.returns-clause-value
returns-clause-value g c =
    groups_done (λ k. tweaked_hash_256 g.N.ArraySize.USIZE c.args.keyed.now.pk_seed (g.A.RowAddress.numbered c.args.adrs.now (slice_index c.args.numbers.now k)) (part g.N.ArraySize.USIZE c.args.values.now k)) g.N.ArraySize.USIZE c.loop-done.done (length c.args.numbers.now) c.loop-done.values c.loop-done.invariant.hashes c.loop-done.invariant.within c.loop-done-test.false (c.loop-done.auto.values ∙ c.requires.room)

pub parts_between-inputs-requires : goal.parts_between-inputs-requires
parts_between-inputs-requires g c = record {
  order = omega (arith, c.min-end.ensures, c.loop-done-test.true);
  inside = group_within g.N.ArraySize.USIZE c.USIZE-n.result c.min-end.result (length c.args.numbers.now) (length c.loop-done.values) c.USIZE-n.ensures (omega (arith, c.min-end.ensures)) (c.loop-done.auto.values ∙ c.requires.room);
}
