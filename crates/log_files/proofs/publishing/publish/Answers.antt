use Rattle.std.proofs.Common.{◌≡◌, ◌+◌, suc, arith}
use Rattle.log_files.proofs.Steps.{extend, head_next, stopped}
use Rattle.log_files.proofs.publishing.publish.Goals as goal

pub returns-in_err-put_piece-clause-files : goal.returns-in_err-put_piece-clause-files
returns-in_err-put_piece-clause-files g c = λ t.
    stopped _ c.args.pieces.now c.args.head.now c.loop-i.i _ _ c.from_residual.result c.in_err-put_piece.field-0.0
    (c.loop-i.invariant.0 t) (c.in_err-put_piece.ensures.files t) c.from_residual.ensures.1

pub loop-i-preserved : goal.loop-i-preserved
loop-i-preserved g c = (
  λ t. let put = c.in_ok-put_piece.ensures.files t in
      let next : c.loop-i.i + 1 ≡ suc c.loop-i.i = omega arith in
      rw next (extend _ c.args.pieces.now c.loop-i.i _ _ put.0 (c.loop-i.invariant.0 t) put.1 put.2),
  omega (arith, c.loop-i.invariant.1, c.put_piece.ensures.later),
)

pub write_whole-requires-clause-permitted : goal.write_whole-requires-clause-permitted
write_whole-requires-clause-permitted g c = λ t n writing.
    c.requires.permitted t n (
      c.loop-i.i,
      _,
      c.loop-i.invariant.0 t,
      head_next _ c.args.pieces.now c.loop-i.i c.args.head.now n (omega (arith, c.loop-i-test.false)) writing,
    )
