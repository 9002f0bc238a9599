use Rattle.slh_host.proofs.Over.{not_written, writing_over, written_over}
use Rattle.slh_host.proofs.whole_outputs.put_whole.Goals as goal

pub write_whole-requires-clause-permitted : goal.write_whole-requires-clause-permitted
write_whole-requires-clause-permitted g c = λ t n writing.
    c.requires.permitted t n (
      c.in_ok-check_kept.ensures.spares t,
      writing_over _ _ n c.args.path.now c.args.part.now c.args.bytes.now (c.in_ok-check_kept.ensures.same t) writing,
    )

pub returns-in-Ok-clause-files : goal.returns-in-Ok-clause-files
returns-in-Ok-clause-files g c = λ t. (
  c.in_ok-check_kept.ensures.spares t,
  written_over _ _ _ c.args.path.now c.args.part.now c.args.bytes.now (c.in_ok-check_kept.ensures.same t) (c.in-Ok.ensures.files t),
)

pub returns-in-Err-clause-files : goal.returns-in-Err-clause-files
returns-in-Err-clause-files g c = λ t.
    not_written c.args.kept _ _ _ c.args.path.now c.args.part.now c.args.bytes.now _ (c.in_ok-check_kept.ensures.spares t) (c.in_ok-check_kept.ensures.same t) (c.in-Err.ensures.files t)
