use Rattle.std.proofs.Common.{arith}
use Rattle.std.proofs.lemmas.Nat.{mul-le}
use Rattle.slh_core.proofs.wots.ends_len.Goals as goal

pub returns-clause-small : goal.returns-clause-small
returns-clause-small g c =
    mul-le c.WOTS_SIG_LEN.result c.USIZE.result 67 32 (omega (arith, c.WOTS_SIG_LEN.ensures, c.chain_sizes.ensures.signature_len, c.chain_sizes.ensures.n_high)) (omega (arith, c.USIZE.ensures, c.chain_sizes.ensures.n_high))
