use Rattle.std.proofs.Common.{arith, ◌^◌, ◌≤◌}
use Rattle.std.proofs.Math.Pow.{pow_mono}
use Rattle.std.proofs.lemmas.Nat.{one_shl}
use Rattle.slh_merkle.proofs.subtree.row_len.Goals as goal

pub returns-clause-value : goal.returns-clause-value
returns-clause-value c = one_shl c.args.z 64 (omega arith)

pub returns-clause-few : goal.returns-clause-few
returns-clause-few c =
    let most : 2 ^ c.args.z ≤ 2 ^ 6 = pow_mono (let low : c.args.z ≤ 6 = omega arith in low) in
    omega (arith, one_shl c.args.z 64 (omega arith))
