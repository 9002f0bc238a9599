use Rattle.std.proofs.Common.{◌+◌, ◌*◌, ◌∙◌, ap, arith, sym}
use Rattle.sha2.specs.Sha512.{sha512}
use Rattle.slh_hash.specs.Sha2.{seed_block, tweaked_hash_512}
use Rattle.slh_hash.proofs.KeyMessages.{ends_fit, keys_hashed, length-front}
use Rattle.slh_hash.proofs.pairs_512.four_keys.Goals as goal

pub returns-clause-keys : goal.returns-clause-keys
unfolding tweaked_hash_512
returns-clause-keys g c =
    let n = g.N.ArraySize.USIZE in
    let keyed = c.args.keyed.now in
    let block = seed_block 128 n keyed.keyed.pk_seed in
    let a = c.args.adrs.now in
    keys_hashed n c.args.count c.args.ends.now a.layer_adrs a.tree_adrs_low a.key_pair_adrs sha512 4 c.args.first block _ _ c.finalize_rows-digests.result
    c.requires.whole c.requires.lanes (rw c.USIZE-n.ensures at c.put_messages.ensures)
    (λ k low. rw c.USIZE-n.ensures at (c.finalize_rows-digests.ensures block k keyed.begins low))
    c.put_hashes.ensures.value

pub overflow_mul-len : goal.overflow_mul-len
overflow_mul-len g c = omega (arith, ends_fit c.args.count c.USIZE-n.result g.N.ArraySize.USIZE c.USIZE-n.ensures c.requires.small c.requires.few)

pub overflow_add-len : goal.overflow_add-len
overflow_add-len g c = omega (arith, ends_fit c.args.count c.USIZE-n.result g.N.ArraySize.USIZE c.USIZE-n.ensures c.requires.small c.requires.few)

pub overflow_mul-store : goal.overflow_mul-store
overflow_mul-store g c = omega (arith, ends_fit c.args.count c.USIZE-n.result g.N.ArraySize.USIZE c.USIZE-n.ensures c.requires.small c.requires.few)

pub slice_bounds-store-end : goal.slice_bounds-store-end
slice_bounds-store-end g c = omega (arith, ends_fit c.args.count c.USIZE-n.result g.N.ArraySize.USIZE c.USIZE-n.ensures c.requires.small c.requires.few)

pub slice_bounds-messages-end : goal.slice_bounds-messages-end
slice_bounds-messages-end g c = sym (length-front (4 * (22 + c.args.count * c.USIZE-n.result)) 8664 (omega (arith, ends_fit c.args.count c.USIZE-n.result g.N.ArraySize.USIZE c.USIZE-n.ensures c.requires.small c.requires.few)))

pub put_messages-requires-clause-whole : goal.put_messages-requires-clause-whole
put_messages-requires-clause-whole g c = c.requires.whole ∙ ap (λ q. 8 * c.args.count * q) (sym c.USIZE-n.ensures)

pub put_messages-requires-clause-room : goal.put_messages-requires-clause-room
put_messages-requires-clause-room g c = length-front (4 * (22 + c.args.count * c.USIZE-n.result)) 8664 (omega (arith, ends_fit c.args.count c.USIZE-n.result g.N.ArraySize.USIZE c.USIZE-n.ensures c.requires.small c.requires.few))

pub finalize_rows-digests-requires : goal.finalize_rows-digests-requires
finalize_rows-digests-requires g c = record {
  short = omega (arith, ends_fit c.args.count c.USIZE-n.result g.N.ArraySize.USIZE c.USIZE-n.ensures c.requires.small c.requires.few);
  whole = c.put_messages.auto.out ∙ length-front (4 * (22 + c.args.count * c.USIZE-n.result)) 8664 (omega (arith, ends_fit c.args.count c.USIZE-n.result g.N.ArraySize.USIZE c.USIZE-n.ensures c.requires.small c.requires.few));
}
