use Rattle.std.proofs.Common.{ℕ, List, ◌++◌, ◌∙◌, ap, take}
use Rattle.sha256_lanes.specs.Sha256.{sha256}
use Rattle.slh_hash.specs.Sha2.{seed_block, tweaked_hash_256}
use Rattle.slh_hash.proofs.small_l1.small_hash.Goals as goal

pub returns : goal.returns
unfolding tweaked_hash_256
returns g c =
    let n = g.N.ArraySize.USIZE in
    let started = seed_block 64 n c.args.keyed.now.pk_seed in
    let input = c.args.first.now ++ c.args.second.now in
    let digest = c.digest_after.ensures started c.args.keyed.now.stands in
    c.first_of.ensures ∙ ap (λ (d : List ℕ). take n d) (digest ∙ ap (λ (a : List ℕ). sha256 (started ++ (a ++ input))) c.compressed.ensures)
