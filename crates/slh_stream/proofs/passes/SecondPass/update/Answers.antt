use Rattle.std.proofs.Common.{◌++◌, arith, append_assoc, length-append}
use Rattle.slh_stream.proofs.Agreeing.{fits, too_long}
use Rattle.slh_stream.proofs.passes.SecondPass.update.Goals as goal

pub returns-clause-joins : goal.returns-clause-joins
returns-clause-joins g c key opt_rand context m is = record {
  key_is = is.key_is;
  randomizer_is = is.randomizer_is;
  taken_is = omega (arith, length-append m c.args.piece.now, is.taken_is);
  stands = rw (← append_assoc context m c.args.piece.now) (c.update_mac.ensures.joins _ _ _ is.stands);
  hashed = rw (← append_assoc context m c.args.piece.now) (c.update_digest.ensures.joins _ _ _ _ is.hashed);
}

pub returns-clause-refusal : goal.returns-clause-refusal
returns-clause-refusal g c key opt_rand context m is =
    fits (m ++ c.args.piece.now) (omega (arith, length-append m c.args.piece.now, is.taken_is))

pub returns-then-piece-self-clause-refusal : goal.returns-then-piece-self-clause-refusal
returns-then-piece-self-clause-refusal g c key opt_rand context m is =
    too_long (m ++ c.args.piece.now) (omega (arith, length-append m c.args.piece.now, is.taken_is))
