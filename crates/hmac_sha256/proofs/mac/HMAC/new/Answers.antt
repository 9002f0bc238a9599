use Rattle.std.proofs.lemmas.List.{append-nil}
use Rattle.hmac_sha256.specs.Hmac.{inner_block, outer_block}
use Rattle.hmac_sha256.proofs.mac.HMAC.new.Goals as goal

pub returns-clause-empty : goal.returns-clause-empty
unfolding inner_block outer_block
returns-clause-empty c = record {
  inner = rw (append-nil (inner_block c.args.k.now)) (rw c.key_block-block.ensures at c.started.ensures.stands);
  outer = rw c.key_block-block.ensures at c.started-2.ensures.stands;
}
