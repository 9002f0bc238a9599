use Rattle.std.proofs.Common.{List, ℕ, ap, refl, ◌∙◌}
use Rattle.sha256_lanes.specs.Sha256.{compress, word_bytes}
use Rattle.hmac_sha256.proofs.Absorbing.{sha256_in_two_blocks}
use Rattle.hmac_sha256.proofs.hashing.finish_in_two_blocks.Goals as goal

pub returns : goal.returns
returns c = λ m held.
    c.word_bytes.ensures ∙ ap word_bytes (c.compress-2.ensures ∙ ap (λ (h : List ℕ). compress h c.put_length.new.block) c.compress.ensures)
    ∙ sha256_in_two_blocks c.args.state.now c.args.rest.now c.args.total m _ _ held c.requires.low c.requires.high
    (c.put_ended.ensures refl) c.put_length.ensures
