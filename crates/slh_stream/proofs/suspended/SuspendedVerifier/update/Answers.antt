use Rattle.std.proofs.Common.{◌++◌, arith, length-append}
use Rattle.slh_stream.proofs.Agreeing.{fits, too_long}
use Rattle.slh_stream.proofs.suspended.SuspendedVerifier.update.Goals as goal

pub returns-clause-refusal : goal.returns-clause-refusal
returns-clause-refusal g c key context rand m is =
    fits (m ++ c.args.piece.now) (omega (arith, length-append m c.args.piece.now, is.taken_is))

pub returns-then-piece-self-clause-refusal : goal.returns-then-piece-self-clause-refusal
returns-then-piece-self-clause-refusal g c key context rand m is =
    too_long (m ++ c.args.piece.now) (omega (arith, length-append m c.args.piece.now, is.taken_is))
