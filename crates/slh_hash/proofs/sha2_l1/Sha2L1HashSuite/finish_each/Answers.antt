use Rattle.std.proofs.Common.{length, refl}
use Rattle.slh_core.specs.Suite.{seeded}
use Rattle.slh_hash.specs.Sha2.{sha2_category_1}
use Rattle.slh_hash.proofs.PairRows.{ends_same}
use Rattle.slh_hash.proofs.sha2_l1.Sha2L1HashSuite.finish_each.Goals as goal

pub returns-clause-value : goal.returns-clause-value
returns-clause-value g c =
    let n = g.N.ArraySize.USIZE in
    let keyed = c.args.keyed.now in
    let s = keyed.pk_seed in
    let a = c.args.adrs.now in
    ends_same (seeded (sha2_category_1 n g.M.ArraySize.USIZE) n s) s (λ _ _. refl) (λ _ _. refl) a.layer_adrs a.tree_adrs_low a.key_pair_adrs
    (length c.args.digits.now) c.args.sig.now c.args.digits.now c.finish_eight.new.out c.requires.count c.finish_eight.ensures.value
