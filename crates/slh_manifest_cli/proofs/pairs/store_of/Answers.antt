use Rattle.std.proofs.Common.{◌∙◌, arith, sym}
use Rattle.std.specs.FinMap.{empty}
use Rattle.slh_manifest.specs.Memory.{store_files}
use Rattle.slh_manifest_cli.specs.Replies.{files_with}
use Rattle.slh_manifest_cli.proofs.InPairs.{files_all, files_step}
use Rattle.slh_manifest_cli.proofs.pairs.store_of.Goals as goal

pub each_pair-preserved : goal.each_pair-preserved
each_pair-preserved c =
    files_step c.args.pairs.now c.each_pair.i _ _ (omega (arith, c.each_pair-test.true, c.len-i-end.ensures)) c.word_at.ensures c.word_at-in-each_pair.ensures
    (files_with empty c.args.pairs.now) (store_files c.each_pair.store.inner) (store_files c.put.new.self.inner) c.each_pair.invariant c.in_ok-put.ensures

pub returns : goal.returns
returns c =
    sym (c.each_pair.invariant ∙ files_all _ c.args.pairs.now c.each_pair.i (omega (arith, c.each_pair-test.false, c.len-i-end.ensures)))
