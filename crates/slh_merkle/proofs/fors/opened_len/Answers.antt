use Rattle.std.proofs.Common.{◌+◌, ◌*◌, ◌<◌, arith, rules}
use Rattle.std.proofs.lemmas.Nat.{mul-le}
use Rattle.slh_merkle.proofs.fors.opened_len.Goals as goal

pub overflow_mul-result : goal.overflow_mul-result
overflow_mul-result g c =
    let most = mul-le (1 + c.A.result) c.USIZE.result 17 32 (omega (arith, c.forest_sizes.ensures.bits_high, c.A.ensures)) (omega (arith, c.forest_sizes.ensures.n_high, c.USIZE.ensures)) in
    let small : (1 + c.A.result) * c.USIZE.result < 18446744073709551616 = omega (arith, most) in search rules

pub returns-clause-small : goal.returns-clause-small
returns-clause-small g c =
    mul-le (1 + c.A.result) c.USIZE.result 17 32 (omega (arith, c.forest_sizes.ensures.bits_high, c.A.ensures)) (omega (arith, c.forest_sizes.ensures.n_high, c.USIZE.ensures))
