use Rattle.std.proofs.Common.{◌≡◌, ℕ, List, ◌≤◌, ◌+◌, ◌*◌, ◌++◌, ◌∙◌, ap, arith, length, slice_index, sym}
use Rattle.slh_core.specs.Bytes.{joined, part}
use Rattle.slh_core.proofs.Joins.{joined_more}
use Rattle.slh_hash.specs.Sha2.{tweaked_hash_256}
use Rattle.slh_hash.proofs.Grouped.{group_within, groups_done}
use Rattle.slh_hash.proofs.rows_256.hash_long_pairs.Goals as goal

pub piece-requires : goal.piece-requires
piece-requires g c =
    group_within (2 * g.N.ArraySize.USIZE) (2 * c.USIZE-n.result) (c.loop-k.k + 1) (length c.args.numbers.now) (length c.args.pairs.now) (ap (λ q. 2 * q) c.USIZE-n.ensures) (omega (arith, c.loop-k-test.true)) c.requires.pairs

pub put_part-requires : goal.put_part-requires
put_part-requires g c = record {
  fits = group_within g.N.ArraySize.USIZE c.USIZE-n.result (c.loop-k.k + 1) (length c.args.numbers.now) (length c.loop-k.out) c.USIZE-n.ensures (omega (arith, c.loop-k-test.true)) (c.loop-k.auto.out ∙ c.requires.room);
  len = c.as_slice.ensures.len ∙ sym c.USIZE-n.ensures;
}

pub loop-k-preserved : goal.loop-k-preserved
loop-k-preserved g c =
    let n = g.N.ArraySize.USIZE in
    let s = c.args.keyed.now.pk_seed in
    let pairs = c.args.pairs.now in
    let k = c.loop-k.k in
    let made = c.as_slice.result.now in
    let f : ℕ → List ℕ = λ i. tweaked_hash_256 n s (g.A.RowAddress.numbered c.args.adrs.now (slice_index c.args.numbers.now i)) (part (2 * n) pairs i) in
    let is : made ≡ f k = c.as_slice.ensures.value ∙ c.short_hash-parent.ensures
    ∙ ap (λ b. tweaked_hash_256 n s b c.piece.result.now) c.at_number.ensures
    ∙ ap (tweaked_hash_256 n s (g.A.RowAddress.numbered c.args.adrs.now (slice_index c.args.numbers.now k))) (c.piece.ensures.value ∙ ap (λ q. part (2 * q) pairs k) c.USIZE-n.ensures) in
    record {
      hashes = c.put_part.ensures.front ∙ ap (λ xs. xs ++ made) c.loop-k.invariant.hashes ∙ ap (λ ys. joined f k ++ ys) is ∙ sym (joined_more f k);
      cost = omega (arith, c.tick.ensures, c.loop-k.invariant.cost);
    }

pub returns : goal.returns
returns g c =
    let n = g.N.ArraySize.USIZE in
    let len = length c.args.numbers.now in
    let low : c.loop-k.k ≤ len = omega (arith, c.loop-k.auto.k-end) in
    record {
      value = groups_done (λ i. tweaked_hash_256 n c.args.keyed.now.pk_seed (g.A.RowAddress.numbered c.args.adrs.now (slice_index c.args.numbers.now i)) (part (2 * n) c.args.pairs.now i)) c.USIZE-n.result c.loop-k.k len c.loop-k.out c.loop-k.invariant.hashes low c.loop-k-test.false
          (c.loop-k.auto.out ∙ c.requires.room ∙ ap (λ q. len * q) (sym c.USIZE-n.ensures));
      step = omega (arith, low, c.loop-k-test.false, c.loop-k.invariant.cost);
    }
