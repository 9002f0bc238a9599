use Rattle.std.proofs.Common.{inl}
use Rattle.slh_log_commands.proofs.signing.check_grown.Goals as goal

pub returns-then-old-eq0 : goal.returns-then-old-eq0
returns-then-old-eq0 c =
    let e = c.in-Ok.ensures in
    inl (
      c.in-Ok.old.root,
      record {
        accepted = e.refusal;
        size_is = rw c.if-old-eq0.true at e.size;
        root_is = e.root;
      },
    )
