use Rattle.std.proofs.Common.{ℕ, List, [], ◌∙◌, arith, sym}
use Rattle.std.proofs.lemmas.Grind.{common_steps}
use Rattle.std.proofs.lemmas.List.{ext_get_or, get_or-map, length-map}
use Rattle.sha2.specs.Sha512.{digest_bytes}
use Rattle.sha512_lanes.proofs.hashing.digests_of.Goals as goal

pub each_digest-init : goal.each_digest-init
each_digest-init g c = grind (arith, common_steps)

pub returns : goal.returns
returns g c =
    let words = c.args.words.now in
    let bytes : List ℕ → List ℕ = λ w. digest_bytes w 8 in
    ext_get_or [] c.each_digest.digests _ (omega (arith, length-map words bytes)) (λ k low.
    c.each_digest.invariant.1 k (omega arith) ∙ sym (get_or-map bytes words k [] [] (omega arith)))
