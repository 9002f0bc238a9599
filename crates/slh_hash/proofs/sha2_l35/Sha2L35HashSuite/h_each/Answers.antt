use Rattle.std.proofs.Common.{List, ℕ, length, slice_index}
use Rattle.slh_hash.specs.Sha2.{tweaked_hash_512}
use Rattle.slh_hash.proofs.Grouped.{hashes_of_pairs}
use Rattle.slh_hash.proofs.sha2_l35.Sha2L35HashSuite.h_each.Goals as goal

pub returns-clause-value : goal.returns-clause-value
returns-clause-value g c =
    let n = g.N.ArraySize.USIZE in
    let numbers = c.args.numbers.now in
    let hash : ℕ → List ℕ → List ℕ = λ k x. tweaked_hash_512 n c.args.keyed.now.keyed.pk_seed (g.A.RowAddress.numbered c.args.adrs.now (slice_index numbers k)) x in
    hashes_of_pairs hash n (length numbers) c.args.pairs.now c.hash_pairs_512.new.out c.hash_pairs_512.ensures.value
