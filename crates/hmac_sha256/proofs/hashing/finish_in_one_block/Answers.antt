use Rattle.std.proofs.Common.{ap, arith, ◌∙◌}
use Rattle.sha256_lanes.specs.Sha256.{word_bytes}
use Rattle.hmac_sha256.proofs.Absorbing.{sha256_in_one_block}
use Rattle.hmac_sha256.proofs.hashing.finish_in_one_block.Goals as goal

pub returns : goal.returns
returns c = λ m held.
    c.word_bytes.ensures ∙ ap word_bytes c.compress.ensures
    ∙ sha256_in_one_block c.args.state.now c.args.rest.now c.args.total m _ held (omega (arith, c.requires.short)) c.requires.left
    c.last_block-block.ensures
