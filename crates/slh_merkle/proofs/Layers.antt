-- The place and the message of the next layer.
use Rattle.std.proofs.Common.{◌≡◌, ℕ, zero, suc, ◌+◌, ◌*◌, ◌/◌, ◌%◌, ◌^◌, ◌<◌, ◌≤◌, List, arith, refl, sym, add-one, ap, length, length-append}
use Rattle.std.proofs.lemmas.Nat.{shr-shr, mul-le, mod_below, pow_pos}
use Rattle.slh_core.specs.Bytes.{joined, part}
use Rattle.slh_core.specs.Wots.{wots_sig}
use Rattle.slh_core.specs.Suite.{HasLength, Seeded}
use Rattle.slh_core.proofs.Chains.{length-wots_sig}
use Rattle.slh_core.proofs.Joins.{part-joined}
use Rattle.slh_merkle.specs.Checking.{checked_node, checked_message}
use Rattle.slh_merkle.specs.Hypertree.{tree_at, leaf_at, layer_message, layer_size, layer_signature, ht_sig}
use Rattle.slh_merkle.specs.Xmss.{xmss_node, auth_path}
use Rattle.slh_merkle.proofs.Climbs.{length-auth_path, checked_node-xmss_sig}

pub tree_at-zero : (hp t : ℕ) → t ≡ tree_at hp t 0
tree_at-zero hp t = let none : 0 * hp ≡ 0 = omega arith in rw none (omega arith)

pub tree_at-more : (hp t j : ℕ) → tree_at hp t j / 2 ^ hp ≡ tree_at hp t (j + 1)
tree_at-more hp t j =
    let next : j * hp + hp ≡ (j + 1) * hp = omega arith in rw (shr-shr t (j * hp) hp, next) refl

pub leaf_at-more : (hp t l j : ℕ) → tree_at hp t j % 2 ^ hp ≡ leaf_at hp t l (j + 1)
leaf_at-more hp t l j = rw add-one refl

pub layer_message-more : (K : Seeded) (hp : ℕ) (sk : List ℕ) (t l : ℕ) (m : List ℕ) (j : ℕ) → xmss_node K sk j (tree_at hp t j) hp 0 ≡ layer_message K hp sk t l m (j + 1)
layer_message-more K hp sk t l m j = rw add-one refl

-- the next part is within the whole
pub part_fits : (j d size total : ℕ) → j < d → total ≡ d * size → (j + 1) * size ≤ total
part_fits j d size total below whole =
    rw whole (mul-le (j + 1) size d size (omega arith) (omega arith))

pub checked_message-more : (K : Seeded) (hp t l : ℕ) (sig m : List ℕ) (j : ℕ) → checked_node K j (tree_at hp t j) (leaf_at hp t l j) (part (layer_size K.n hp) sig j) (checked_message K hp t l sig m j) hp ≡ checked_message K hp t l sig m (j + 1)
unfolding checked_message
checked_message-more K hp t l sig m j =
    ap (λ k. checked_message K hp t l sig m k) (sym (add-one j))

leaf_at-below : (hp t l j : ℕ) → l < 2 ^ hp → leaf_at hp t l j < 2 ^ hp
leaf_at-below hp t l zero h = h
leaf_at-below hp t l (suc j) h = mod_below (tree_at hp t j) (2 ^ hp) (pow_pos hp)

-- each layer's signature has its size
pub length-layer_signature : (K : Seeded) (hp : ℕ) (sk : List ℕ) (t l : ℕ) (m : List ℕ) (j : ℕ) → HasLength K.suite K.n → length (layer_signature K hp sk t l m j) ≡ layer_size K.n hp
unfolding layer_signature
length-layer_signature K hp sk t l m j law =
    let tree = tree_at hp t j in
    let y = leaf_at hp t l j in
    let message = layer_message K hp sk t l m j in
    rw (length-append (wots_sig K sk j tree y message) (auth_path K sk j tree y hp), length-wots_sig K sk j tree y message law, length-auth_path K sk j tree y hp law)
    (omega arith)

-- the layers of a signature lead to the roots that they sign
pub checked_message-signature : (K : Seeded) (hp : ℕ) (sk : List ℕ) (t l : ℕ) (m : List ℕ) (d j : ℕ) → HasLength K.suite K.n → l < 2 ^ hp → j ≤ d → checked_message K hp t l (ht_sig K hp sk t l m d) m j ≡ layer_message K hp sk t l m j
unfolding checked_message ht_sig layer_signature
checked_message-signature K hp sk t l m d zero law below h = refl
checked_message-signature K hp sk t l m d (suc j) law below h =
    let lower = checked_message-signature K hp sk t l m d j law below (omega arith) in
    let signature = layer_signature K hp sk t l m in
    let cut : part (layer_size K.n hp) (joined signature d) j ≡ signature j
    = part-joined signature (layer_size K.n hp) d j (λ k. length-layer_signature K hp sk t l m k law) h in
    rw (cut, lower)
    (checked_node-xmss_sig K sk hp j (tree_at hp t j) (leaf_at hp t l j) (layer_message K hp sk t l m j) law (leaf_at-below hp t l j below))
