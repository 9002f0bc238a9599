use Rattle.std.proofs.Common.{arith}
use Rattle.std.proofs.lemmas.Grind.{common_steps}
use Rattle.slh_dsa.proofs.signing_key.SigningKey.slh_keygen_counted.Goals as goal

pub returns-then-sk_seed-n : goal.returns-then-sk_seed-n
returns-then-sk_seed-n g c = grind (arith, common_steps)

pub exact-sk_seed-requires : goal.exact-sk_seed-requires
exact-sk_seed-requires g c = grind (arith, common_steps)

pub exact-pk_seed-requires : goal.exact-pk_seed-requires
exact-pk_seed-requires g c = grind (arith, common_steps)

pub exact-requires : goal.exact-requires
exact-requires g c = grind (arith, common_steps)

pub returns : goal.returns
returns g c = grind (arith, common_steps)
