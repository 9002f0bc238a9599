-- What is made leads to the root of the top tree.
use Rattle.std.proofs.Common.{◌≡◌, ℕ, suc, ◌+◌, ◌-◌, ◌*◌, ◌^◌, ◌<◌, ◌≤◌, List, ◌++◌, length, take, drop, arith, refl, ap, ◌∙◌, length-append}
use Rattle.std.specs.Prelude.{slice_range}
use Rattle.std.proofs.lemmas.List.{append_assoc}
use Rattle.std.proofs.lemmas.Nat.{mod_below, pow_pos}
use Rattle.std.proofs.Math.Nat.{div-eq_of_lt}
use Rattle.slh_core.specs.Bytes.{part}
use Rattle.slh_core.specs.Parameters.{Scheme, bytes_for, chain_count}
use Rattle.slh_core.specs.Suite.{HasLength, Seeded, seeded}
use Rattle.slh_core.proofs.Joins.{length-joined, range_left, range_right, take_front, drop_front}
use Rattle.slh_trees.specs.Checking.{checked_root, digest_root, signature_size}
use Rattle.slh_merkle.specs.Checking.{fors_pk_from_sig, checked_message, forest_size}
use Rattle.slh_merkle.specs.Fors.{fors_pk, fors_sig}
use Rattle.slh_merkle.specs.Hypertree.{ht_sig, layer_message, layer_signature, layer_size, tree_at}
use Rattle.slh_trees.specs.MessageDigest.{digest_number}
use Rattle.slh_trees.specs.Keys.{top_root}
use Rattle.slh_trees.specs.Signing.{digest_signature, signature_with}
use Rattle.slh_merkle.specs.Xmss.{xmss_node}
use Rattle.slh_merkle.proofs.Forests.{fors_pk_from_sig-signature, length-fors_sig}
use Rattle.slh_merkle.proofs.Layers.{checked_message-signature, length-layer_signature}

-- over any tree, leaf and bytes that name leaves of the forest
composed : (K : Seeded) (hp d a k : ℕ) (sk rand : List ℕ) (t l : ℕ) (md : List ℕ) → HasLength K.suite K.n → 1 ≤ d → length rand ≡ K.n → t < 2 ^ ((d - 1) * hp) → l < 2 ^ hp →
    checked_message K hp t l (drop (K.n + forest_size K.n k a) (rand ++ fors_sig K sk t l k a md ++ ht_sig K hp sk t l (fors_pk K sk t l k a) d))
    (fors_pk_from_sig K t l k a (slice_range (rand ++ fors_sig K sk t l k a md ++ ht_sig K hp sk t l (fors_pk K sk t l k a) d) K.n (K.n + forest_size K.n k a)) md) d
    ≡ xmss_node K sk (d - 1) 0 hp 0
composed K hp d a k sk rand t l md law layers size tree leaf =
    let forest = fors_sig K sk t l k a md in
    let key = fors_pk K sk t l k a in
    let upper = ht_sig K hp sk t l key d in
    let split = K.n + forest_size K.n k a in
    let forest_len : length forest ≡ forest_size K.n k a = length-fors_sig K sk t l k a md law in
    let front_len : length (rand ++ forest) ≡ split = rw (length-append rand forest, size, forest_len) refl in
    let rest : drop split (rand ++ forest ++ upper) ≡ upper = drop_front split (rand ++ forest) upper front_len in
    let middle : slice_range (rand ++ forest ++ upper) K.n split ≡ forest
    = range_left (rand ++ forest) upper K.n split (omega arith) (omega arith) ∙ range_right rand forest K.n split size (rw forest_len refl) in
    let last : d ≡ suc (d - 1) = omega arith in
    let top : tree_at hp t (d - 1) ≡ 0 = div-eq_of_lt tree in
    rw (rest, middle, fors_pk_from_sig-signature K sk t l k a md law, checked_message-signature K hp sk t l key d d law leaf (omega arith))
    (ap (λ e. layer_message K hp sk t l key e) last ∙ ap (λ e. xmss_node K sk (d - 1) e hp 0) top)

pub digest_root-signature : (Z : Scheme) (s sk rand digest : List ℕ) → HasLength Z.suite Z.n → 1 ≤ Z.d → length rand ≡ Z.n → digest_root Z s digest (digest_signature Z s sk rand digest) ≡ top_root Z s sk
unfolding digest_root digest_signature top_root digest_number
digest_root-signature Z s sk rand digest law layers size =
    composed (seeded Z.suite Z.n s) Z.hp Z.d Z.a Z.k sk rand _ _ (take (bytes_for (Z.k * Z.a)) digest) law layers size
    (mod_below _ _ (pow_pos _)) (mod_below _ _ (pow_pos _))

-- the randomizer is the front of the signature
front_of_signature : (Z : Scheme) (s sk rand digest : List ℕ) → length rand ≡ Z.n → take Z.n (digest_signature Z s sk rand digest) ≡ rand
unfolding digest_signature
front_of_signature Z s sk rand digest size =
    rw append_assoc (take_front Z.n rand _ size)

pub checked_root-signature : (Z : Scheme) (key rand message : List ℕ) → HasLength Z.suite Z.n → 1 ≤ Z.d → length rand ≡ Z.n → checked_root Z (part Z.n key 2) (part Z.n key 3) message (signature_with Z key rand message) ≡ top_root Z (part Z.n key 2) (part Z.n key 0)
checked_root-signature Z key rand message law layers size =
    let s = part Z.n key 2 in
    let sk = part Z.n key 0 in
    let digest = Z.suite.h_msg rand s (part Z.n key 3) message in
    rw (front_of_signature Z s sk rand digest size) (digest_root-signature Z s sk rand digest law layers size)

-- the parts of a signature, counted in values of n bytes
pub size_in_values : (n k a hp d len h : ℕ) → len ≡ chain_count n → h ≡ d * hp → n + forest_size n k a + d * layer_size n hp ≡ (1 + k * (1 + a) + h + d * len) * n
size_in_values n k a hp d len h chains height = rw (chains, height) (omega arith)

length-ht_sig : (K : Seeded) (hp : ℕ) (sk : List ℕ) (t l : ℕ) (m : List ℕ) (d : ℕ) → HasLength K.suite K.n → length (ht_sig K hp sk t l m d) ≡ d * layer_size K.n hp
unfolding ht_sig
length-ht_sig K hp sk t l m d law =
    length-joined (layer_signature K hp sk t l m) (layer_size K.n hp) d (λ j. length-layer_signature K hp sk t l m j law)

-- over any tree, leaf and digits
length-composed : (K : Seeded) (hp d a k : ℕ) (sk rand : List ℕ) (t l : ℕ) (md key : List ℕ) → HasLength K.suite K.n → length rand ≡ K.n →
    length (rand ++ fors_sig K sk t l k a md ++ ht_sig K hp sk t l key d) ≡ K.n + forest_size K.n k a + d * layer_size K.n hp
length-composed K hp d a k sk rand t l md key law size =
    let forest = fors_sig K sk t l k a md in
    let upper = ht_sig K hp sk t l key d in
    rw (length-append (rand ++ forest) upper, length-append rand forest, size, length-fors_sig K sk t l k a md law, length-ht_sig K hp sk t l key d law) refl

pub length-digest_signature : (Z : Scheme) (s sk rand digest : List ℕ) → HasLength Z.suite Z.n → length rand ≡ Z.n → length (digest_signature Z s sk rand digest) ≡ signature_size Z
unfolding digest_signature digest_number
length-digest_signature Z s sk rand digest law size =
    length-composed (seeded Z.suite Z.n s) Z.hp Z.d Z.a Z.k sk rand _ _ (take (bytes_for (Z.k * Z.a)) digest) _ law size
