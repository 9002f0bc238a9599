use Rattle.std.proofs.Common.{◌≡◌, ℕ, List, ◌+◌, ap, arith, refl}
use Rattle.slh_hash.specs.Sha2.{tweaked_hash_512}
use Rattle.slh_hash.proofs.KeyMessages.{ends_of, pk_at, two_fours}
use Rattle.slh_hash.proofs.pairs_512.keys_of_ends_512.Goals as goal

pub returns-clause-keys : goal.returns-clause-keys
returns-clause-keys g c =
    let n = g.N.ArraySize.USIZE in
    let s = c.args.keyed.now.keyed.pk_seed in
    let a = c.args.adrs.now in
    let key : ℕ → List ℕ = λ k. tweaked_hash_512 n s (pk_at n c.args.count c.args.ends.now a.layer_adrs a.tree_adrs_low a.key_pair_adrs k)
    (ends_of n c.args.count c.args.ends.now a.layer_adrs a.tree_adrs_low a.key_pair_adrs k) in
    let none : (k : ℕ) → 0 + k ≡ k = λ k. omega arith in
    two_fours key _ _ _ _ c.four_keys.ensures.keys c.four_keys-2.ensures.keys (λ k. ap key (none k)) (λ k. refl)
