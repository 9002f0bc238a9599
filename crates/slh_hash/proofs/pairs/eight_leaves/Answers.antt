use Rattle.std.proofs.Common.{◌≡◌, ℕ, ◌+◌, ◌∙◌, List, ap, take}
use Rattle.sha256_lanes.specs.Eight.{head_bytes, lane_bytes}
use Rattle.slh_core.specs.Address.{address_bytes, fors_prf_type, fors_tree_type}
use Rattle.slh_core.proofs.Joins.{joined_same, take_front}
use Rattle.slh_hash.specs.Sha2.{tweaked_hash_256}
use Rattle.slh_hash.proofs.PairRows.{head_of_step}
use Rattle.slh_hash.proofs.pairs.eight_leaves.Goals as goal

pub returns-clause-value : goal.returns-clause-value
returns-clause-value g c =
    let n = g.N.ArraySize.USIZE in
    let s = c.args.keyed.now.pk_seed in
    let t = c.args.adrs.now.tree_adrs_low in
    let l = c.args.adrs.now.key_pair_adrs in
    let numbers = c.eight_from-numbers in
    let forest = c.new-forest.ensures in
    (rw c.USIZE.ensures at c.put_lanes.ensures) ∙ joined_same _ _ 8 (λ k low.
    let i : ℕ = c.args.first + k in
    let secret_at : List ℕ = address_bytes 0 t fors_prf_type l 0 i in
    let leaf_at : List ℕ = address_bytes 0 t fors_tree_type l 0 i in
    let secret_head = head_of_step 0 t fors_prf_type l 0 i (head_bytes c.splat.result k) (head_bytes c.ended-secret_heads.result k)
    (c.splat.ensures k low ∙ (rw (c.prf_adrs.ensures, forest) at c.compressed.ensures)) (rw (numbers.ensures k low) at (c.ended-secret_heads.ensures k low)) in
    let leaf_head = head_of_step 0 t fors_tree_type l 0 i (head_bytes c.splat-2.result k) (head_bytes c.ended-leaf_heads.result k)
    (c.splat-2.ensures k low ∙ (rw forest at c.compressed-2.ensures)) (rw (numbers.ensures k low) at (c.ended-leaf_heads.ensures k low)) in
    let seed : take n (lane_bytes c.splat-seed.result k) ≡ c.args.sk_seed.now
    = ap (take n) (c.splat-seed.ensures k low) ∙ take_front n c.as_slice.result.now _ c.as_slice.ensures.len ∙ c.as_slice.ensures.value in
    c.hash_eight-leaves.ensures leaf_at k low leaf_head
    ∙ ap (tweaked_hash_256 n s leaf_at) (c.hash_eight-secrets.ensures secret_at k low secret_head ∙ ap (tweaked_hash_256 n s secret_at) seed))
