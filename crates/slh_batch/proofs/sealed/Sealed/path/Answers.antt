use Rattle.std.proofs.Common.{arith}
use Rattle.slh_batch.proofs.Few.{path_few}
use Rattle.slh_batch.proofs.sealed.Sealed.path.Goals as goal

pub returns-clause-few : goal.returns-clause-few
returns-clause-few g c =
    rw (c.in_ok-push_path.ensures, c.in_ok-path.ensures.items) (path_few c.self.inside.levels c.args.i (omega arith) c.self.invariant.1)
