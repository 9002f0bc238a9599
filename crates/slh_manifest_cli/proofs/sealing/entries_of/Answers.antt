use Rattle.std.proofs.Common.{◌∙◌, [], arith}
use Rattle.slh_manifest_cli.specs.Replies.{entries_with}
use Rattle.slh_manifest_cli.proofs.InPairs.{entries_all, entries_end, entries_only, entries_some, entries_step, only_memory}
use Rattle.slh_manifest_cli.proofs.sealing.entries_of.Goals as goal

pub returns-in-Err-clause-err : goal.returns-in-Err-clause-err
returns-in-Err-clause-err c =
    entries_end c.args.pairs.now c.each_pair.i _ _ (omega (arith, c.each_pair-test.true, c.len-i-end.ensures)) c.word_at-name.ensures c.word_at-bytes.ensures
    (entries_with [] c.args.pairs.now) c.each_pair.builder c.in-Err.error c.each_pair.invariant c.in-Err.ensures.refused

pub each_pair-preserved : goal.each_pair-preserved
each_pair-preserved c =
    entries_step c.args.pairs.now c.each_pair.i _ _ (omega (arith, c.each_pair-test.true, c.len-i-end.ensures)) c.word_at-name.ensures c.word_at-bytes.ensures
    (entries_with [] c.args.pairs.now) c.each_pair.builder c.add_pair.new.builder c.each_pair.invariant c.in_default.ensures.fits c.in_default.ensures.entry

pub returns-clause-ok : goal.returns-clause-ok
returns-clause-ok c =
    c.each_pair.invariant ∙ entries_all c.each_pair.builder c.args.pairs.now c.each_pair.i (omega (arith, c.each_pair-test.false, c.len-i-end.ensures))

pub returns-in-Err-clause-only : goal.returns-in-Err-clause-only
returns-in-Err-clause-only c =
    only_memory (entries_with [] c.args.pairs.now) c.in-Err.error (entries_only [] c.args.pairs.now (omega arith)) (returns-in-Err-clause-err c)

pub returns-clause-some : goal.returns-clause-some
returns-clause-some c = entries_some c.args.pairs.now c.each_pair.builder (omega arith) (returns-clause-ok c)
