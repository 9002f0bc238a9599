use Rattle.std.proofs.Common.{◌*◌, ◌∙◌, ap, arith, length, refl, sym}
use Rattle.slh_core.specs.Suite.{seeded}
use Rattle.slh_hash.specs.Lengths.{sha2_category_1_lengths}
use Rattle.slh_hash.specs.Sha2.{sha2_category_1}
use Rattle.slh_hash.proofs.KeyMessages.{eight_ends_fit, length-front}
use Rattle.slh_hash.proofs.PairRows.{keys_same, left_same}
use Rattle.slh_hash.proofs.sha2_l1.Sha2L1HashSuite.pairs_eight.Goals as goal

pub returns-clause-keys : goal.returns-clause-keys
returns-clause-keys g c =
    let n = g.N.ArraySize.USIZE in
    let m = g.M.ArraySize.USIZE in
    let keyed = c.args.keyed.now in
    let s = keyed.pk_seed in
    let a = c.args.adrs.now in
    keys_same (seeded (sha2_category_1 n m) n s) s (λ _ _. refl) (λ _ _. refl) c.args.sk_seed.now a.layer_adrs a.tree_adrs_low a.key_pair_adrs
    (length c.args.digits.now) c.run_eight.new.ends c.keys_of_ends.new.out (sha2_category_1_lengths n m c.requires.small) c.requires.count
    c.run_eight.ensures.ends c.keys_of_ends.ensures.keys

pub returns-clause-values : goal.returns-clause-values
returns-clause-values g c =
    let n = g.N.ArraySize.USIZE in
    let m = g.M.ArraySize.USIZE in
    let keyed = c.args.keyed.now in
    let s = keyed.pk_seed in
    let a = c.args.adrs.now in
    left_same (seeded (sha2_category_1 n m) n s) s (λ _ _. refl) (λ _ _. refl) c.args.sk_seed.now a.layer_adrs a.tree_adrs_low _
    (length c.args.digits.now) c.args.sig.now c.args.digits.now c.run_eight.new.sig c.run_eight.ensures.values

pub overflow_mul-store-2 : goal.overflow_mul-store-2
overflow_mul-store-2 g c = omega (arith, eight_ends_fit (length c.args.digits.now) c.USIZE.result g.N.ArraySize.USIZE c.USIZE.ensures c.requires.small c.requires.count)

pub overflow_mul-store : goal.overflow_mul-store
overflow_mul-store g c = omega arith

pub slice_bounds-store-end : goal.slice_bounds-store-end
slice_bounds-store-end g c = omega (arith, eight_ends_fit (length c.args.digits.now) c.USIZE.result g.N.ArraySize.USIZE c.USIZE.ensures c.requires.small c.requires.count)

pub slice_bounds-ends-end : goal.slice_bounds-ends-end
slice_bounds-ends-end g c = sym (length-front (8 * length c.args.digits.now * c.USIZE.result) 17152 (omega (arith, eight_ends_fit (length c.args.digits.now) c.USIZE.result g.N.ArraySize.USIZE c.USIZE.ensures c.requires.small c.requires.count)))

pub run_eight-requires-clause-room : goal.run_eight-requires-clause-room
run_eight-requires-clause-room g c = length-front (8 * length c.args.digits.now * c.USIZE.result) 17152 (omega (arith, eight_ends_fit (length c.args.digits.now) c.USIZE.result g.N.ArraySize.USIZE c.USIZE.ensures c.requires.small c.requires.count)) ∙ ap (λ q. 8 * length c.args.digits.now * q) c.USIZE.ensures

pub keys_of_ends-requires-clause-whole : goal.keys_of_ends-requires-clause-whole
keys_of_ends-requires-clause-whole g c = c.run_eight.auto.ends ∙ length-front (8 * length c.args.digits.now * c.USIZE.result) 17152 (omega (arith, eight_ends_fit (length c.args.digits.now) c.USIZE.result g.N.ArraySize.USIZE c.USIZE.ensures c.requires.small c.requires.count)) ∙ ap (λ q. 8 * length c.args.digits.now * q) c.USIZE.ensures
