use Rattle.std.proofs.Common.{arith, ◌+◌, ◌*◌}
use Rattle.std.proofs.lemmas.Slice.{drop-put_mid}
use Rattle.slh_core.proofs.equal_parts.put_part.Goals as goal

pub returns-clause-rest : goal.returns-clause-rest
returns-clause-rest c =
    drop-put_mid (c.args.c * c.args.n) _ _ _ ((c.args.c + 1) * c.args.n) (omega arith) (omega arith) (omega arith)
