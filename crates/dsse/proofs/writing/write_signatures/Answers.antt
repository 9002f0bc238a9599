use Rattle.std.proofs.Common.{◌∙◌, arith}
use Rattle.dsse.proofs.Lists.{signature_written}
use Rattle.dsse.proofs.writing.write_signatures.Goals as goal

pub loop-signature-preserved : goal.loop-signature-preserved
loop-signature-preserved c = record {
  before = c.write_signature.ensures.before ∙ c.loop-signature.invariant.before;
  tokens
      = signature_written c.loop-signature.writer.tokens c.write_signature.new.writer.tokens c.args.signatures.now c.loop-signature.signature-index c.signature-item.result _ (omega arith)
      c.signature-item.is c.in_ok-write_signature.ensures.tokens c.loop-signature.invariant.tokens;
}
