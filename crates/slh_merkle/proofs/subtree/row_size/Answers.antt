use Rattle.std.proofs.Common.{arith}
use Rattle.std.proofs.lemmas.Nat.{mul-le}
use Rattle.slh_merkle.proofs.subtree.row_size.Goals as goal

pub returns-clause-small : goal.returns-clause-small
returns-clause-small g c =
    rw c.USIZE.ensures (mul-le c.args.count g.P.N.ArraySize.USIZE c.args.count 32 (omega arith) c.chain_sizes.ensures.n_high)
