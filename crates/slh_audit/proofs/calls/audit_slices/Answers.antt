use Rattle.std.proofs.Common.{◌++◌}
use Rattle.slh_audit.proofs.Answered.{by_digest}
use Rattle.slh_audit.proofs.calls.audit_slices.Goals as goal

pub returns : goal.returns
returns g c =
    by_digest g.P.ForsSizes.scheme c.args.key.now (c.args.head.now ++ c.args.ctx.now ++ c.args.msg.now) c.args.sig.now _ c.audit_by_digest.result c.write_message_digest.ensures c.audit_by_digest.ensures
