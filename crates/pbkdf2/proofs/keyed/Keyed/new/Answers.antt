use Rattle.std.proofs.Common.{◌∙◌, ap, subst}
use Rattle.hmac_sha256.specs.Hmac.{inner_block, outer_block, masked}
use Rattle.sha256_lanes.specs.Midstate.{BeginsWith}
use Rattle.pbkdf2.proofs.keyed.Keyed.new.Goals as goal

pub returns : goal.returns
unfolding inner_block outer_block
returns c = record {
  inner = subst (BeginsWith c.new.result) (c.masked.ensures ∙ ap (masked 0x36) c.key_block-block.ensures) c.new.ensures;
  outer = subst (BeginsWith c.new-2.result) (c.masked-2.ensures ∙ ap (masked 0x5c) c.key_block-block.ensures) c.new-2.ensures;
}
