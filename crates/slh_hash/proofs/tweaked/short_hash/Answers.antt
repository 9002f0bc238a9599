use Rattle.std.proofs.Common.{ℕ, List, ◌++◌, ◌∙◌, ap, take}
use Rattle.sha256_lanes.specs.Sha256.{sha256}
use Rattle.slh_hash.specs.Sha2.{seed_block, tweaked_hash_256}
use Rattle.slh_hash.proofs.tweaked.short_hash.Goals as goal

pub returns : goal.returns
unfolding tweaked_hash_256
returns g c =
    let n = g.N.ArraySize.USIZE in
    let started = seed_block 64 n c.args.keyed.now.pk_seed in
    let digest = c.finalize_with.ensures started c.started.ensures.stands in
    let tail = c.put_two-end.ensures.bytes in
    c.first_of.ensures ∙ ap (λ (d : List ℕ). take n d) (digest ∙ ap (λ (t : List ℕ). sha256 (started ++ t)) (tail ∙ ap (λ (a : List ℕ). a ++ c.args.input.now) c.compressed.ensures))
