use Rattle.std.proofs.Common.{rules, ◌≡◌, ℕ, List, ◌++◌, ◌∙◌, ap, take, append_assoc}
use Rattle.sha2.specs.Hashers.{Holds512}
use Rattle.sha2.specs.Sha512.{sha512}
use Rattle.slh_hash.specs.Sha2.{seed_block, tweaked_hash_512}
use Rattle.slh_hash.proofs.tweaked.long_hash_512.Goals as goal

pub returns : goal.returns
unfolding tweaked_hash_512
returns g c =
    let n = g.N.ArraySize.USIZE in
    let started = seed_block 128 n c.args.keyed.now.keyed.pk_seed in
    let cloned : c.unwrap-hash.result ≡ c.args.keyed.now.started = search rules in
    let held : Holds512 c.unwrap-hash.result started = rw cloned c.args.keyed.now.holds in
    let digest = c.finalize.ensures _ (c.update-2.ensures _ (c.update.ensures started held)) in
    c.exact.ensures ∙ ap (λ (k : ℕ). take k c.finalize.result) c.USIZE.ensures
    ∙ ap (λ (d : List ℕ). take n d) (digest ∙ ap sha512 (append_assoc started _ _ ∙ ap (λ (a : List ℕ). started ++ (a ++ c.args.input.now)) c.compressed.ensures))
