use Rattle.slh_hash.specs.Sha2.{seed_block}
use Rattle.slh_hash.proofs.pairs.begin_eight.Goals as goal

pub returns : goal.returns
returns g c = λ k low.
    let keyed = c.args.keyed.now in
    c.begin.ensures (seed_block 64 g.N.ArraySize.USIZE keyed.pk_seed) k keyed.begins low
