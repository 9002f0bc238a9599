use Rattle.std.proofs.Common.{ℕ, List, ◌++◌, ◌∙◌, ap, take, append_assoc}
use Rattle.hmac_sha256.specs.Wrapped.{StandsFor as WrappedStandsFor}
use Rattle.hmac_sha256.specs.Hash.{StandsFor}
use Rattle.sha256_lanes.specs.Sha256.{sha256}
use Rattle.slh_hash.specs.Sha2.{seed_block, tweaked_hash_256}
use Rattle.slh_hash.proofs.tweaked.long_hash.Goals as goal

pub returns : goal.returns
unfolding tweaked_hash_256
returns g c =
    let n = g.N.ArraySize.USIZE in
    let started = seed_block 64 n c.args.keyed.now.pk_seed in
    let copied : WrappedStandsFor (StandsFor c.clone-hash.result.core) c.clone-hash.result.held started
    = rw c.clone-hash.ensures c.started.ensures.stands in
    let addressed = c.update.ensures.absorbs.grows started copied in
    let digest = c.finalize_into.ensures _ (c.update-2.ensures.absorbs.grows _ addressed) in
    c.first_of.ensures ∙ ap (λ (d : List ℕ). take n d) (digest ∙ ap sha256 (append_assoc started _ _ ∙ ap (λ (a : List ℕ). started ++ (a ++ c.args.input.now)) c.compressed.ensures))
