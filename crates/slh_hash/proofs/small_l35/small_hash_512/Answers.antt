use Rattle.std.proofs.Common.{ℕ, List, ◌++◌, ◌∙◌, ap, take}
use Rattle.sha2.specs.Sha512.{sha512}
use Rattle.slh_hash.specs.Sha2.{seed_block, tweaked_hash_512}
use Rattle.slh_hash.proofs.small_l35.small_hash_512.Goals as goal

pub returns : goal.returns
unfolding tweaked_hash_512
returns g c =
    let n = g.N.ArraySize.USIZE in
    let started = seed_block 128 n c.args.keyed.now.keyed.pk_seed in
    let input = c.args.first.now ++ c.args.second.now in
    let digest = c.digest_after-digest.ensures started c.args.keyed.now.stands in
    c.exact.ensures ∙ ap (λ (k : ℕ). take k c.digest_after-digest.result) c.USIZE.ensures
    ∙ ap (λ (d : List ℕ). take n d) (digest ∙ ap (λ (a : List ℕ). sha512 (started ++ (a ++ input))) c.compressed.ensures)
