use Rattle.std.proofs.Common.{refl}
use Rattle.std.proofs.lemmas.Result.{err_from_is_err_and}
use Rattle.line_serve.proofs.Runs.{takes_after}
use Rattle.slh_bench.proofs.Reports.{front_taken}
use Rattle.slh_bench.proofs.bench.write_report.Goals as goal

pub returns-in_err-write_head-clause-bytes : goal.returns-in_err-write_head-clause-bytes
returns-in_err-write_head-clause-bytes g c =
    let p = err_from_is_err_and c.from_residual.result c.from_residual.ensures.1 in
    rw p.1 (front_taken _ _ _ _ c.in_err-write_head.ensures.bytes)

pub returns-clause-bytes : goal.returns-clause-bytes
returns-clause-bytes g c =
    takes_after c.write_outcome.result _ _ _ _ _ _ c.in_ok-write_head.ensures.bytes c.write_outcome.ensures.bytes refl
