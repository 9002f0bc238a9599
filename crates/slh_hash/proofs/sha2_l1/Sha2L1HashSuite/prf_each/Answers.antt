use Rattle.std.proofs.Common.{List, ℕ, length, slice_index}
use Rattle.slh_hash.specs.Sha2.{tweaked_hash_256}
use Rattle.slh_hash.proofs.Grouped.{hashes_of_repeated}
use Rattle.slh_hash.proofs.sha2_l1.Sha2L1HashSuite.prf_each.Goals as goal

pub returns-clause-value : goal.returns-clause-value
returns-clause-value g c =
    let n = g.N.ArraySize.USIZE in
    let numbers = c.args.numbers.now in
    let hash : ℕ → List ℕ → List ℕ = λ k x. tweaked_hash_256 n c.args.keyed.now.pk_seed (g.A.RowAddress.numbered c.args.adrs.now (slice_index numbers k)) x in
    hashes_of_repeated hash n (length numbers) c.args.sk_seed.now c.repeat.new.out c.hash_each.new.values c.repeat.ensures.len c.repeat.ensures.values c.hash_each.ensures.value
