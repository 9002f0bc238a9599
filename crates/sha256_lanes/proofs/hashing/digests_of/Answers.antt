use Rattle.std.proofs.Common.{[], ◌∙◌, arith, sym}
use Rattle.std.proofs.lemmas.Grind.{common_steps}
use Rattle.std.proofs.lemmas.List.{ext_get_or, get_or-map, length-map}
use Rattle.sha256_lanes.specs.Sha256.{word_bytes}
use Rattle.sha256_lanes.proofs.hashing.digests_of.Goals as goal

pub each_digest-init : goal.each_digest-init
each_digest-init g c = grind (arith, common_steps)

pub returns : goal.returns
returns g c =
    let words = c.args.words.now in
    ext_get_or [] c.each_digest.digests _ (omega (arith, length-map words word_bytes)) (λ k low.
    c.each_digest.invariant.1 k (omega arith) ∙ sym (get_or-map word_bytes words k [] [] (omega arith)))
