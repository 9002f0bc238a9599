use Rattle.std.proofs.lemmas.Grind.{common_steps}
use Rattle.std.proofs.Common.{◌++◌, arith}
use Rattle.slh_audit.proofs.Judging.{if_genuine}
use Rattle.slh_core.specs.Parameters.{scheme_of}
use Rattle.slh_audit.proofs.calls.audit_framed.Goals as goal

pub returns-clause-genuine : goal.returns-clause-genuine
returns-clause-genuine g c =
    let Z = scheme_of g.P.HashSuite.suite g.P.N.ArraySize.USIZE g.P.XmssSizes.H_PRIME g.P.HypertreeSizes.D g.P.ForsSizes.A g.P.ForsSizes.K in
    let scheme = g.met.P.ForsSizes.scheme_is in
    let n_high = g.met.P.WotsSizes.valid_wots.n_high in
    let message = c.args.head.now ++ c.args.ctx.now ++ c.args.msg.now in
    let answered = rw (scheme, c.in_ok-sig.ensures.sig) at c.audit_slices.ensures in
    rw scheme (if_genuine Z c.args.key.now message c.args.sig.now c.audit_slices.result (g.met.P.HashSuite.lengths n_high) g.met.P.HashSuite.value_bytes n_high g.met.P.HypertreeSizes.valid_hypertree.layers g.met.P.XmssSizes.valid_xmss.height_low (rw scheme at c.in_ok-sig.ensures.whole) answered)

pub returns-in_err-sig : goal.returns-in_err-sig
returns-in_err-sig g c = grind (arith, common_steps)
