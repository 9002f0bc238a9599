-- The opened secrets of a forest lead to its key.
use Rattle.std.proofs.Common.{◌≡◌, ℕ, ◌+◌, ◌*◌, ◌/◌, ◌^◌, ◌<◌, ◌≤◌, List, ◌++◌, length, take, drop, arith, ap, ◌∙◌, length-append}
use Rattle.std.specs.Prelude.{slice_index}
use Rattle.std.proofs.lemmas.Nat.{div-mul-add, mul-le}
use Rattle.slh_core.specs.Address.{address_bytes, fors_roots_type}
use Rattle.slh_core.specs.Bytes.{joined, part}
use Rattle.slh_core.specs.Digits.{digits}
use Rattle.slh_core.specs.Suite.{HasLength, Seeded}
use Rattle.slh_core.proofs.DigitSteps.{digits_below}
use Rattle.slh_core.proofs.Joins.{joined_same, length-joined, part-joined, take_front, drop_front}
use Rattle.slh_merkle.specs.Checking.{checked_fors_node, fors_pk_from_sig, forest_size}
use Rattle.slh_merkle.specs.Fors.{fors_place, leaf_index, fors_secret, fors_leaf, fors_node, fors_auth_path, fors_pk, fors_opened, opened_leaves, fors_sig}
use Rattle.slh_merkle.specs.Lengths.{length-fors_leaf}
use Rattle.slh_merkle.specs.Merkle.{merkle}
use Rattle.slh_merkle.proofs.Climbs.{climb-merkle_auth_path, length-merkle_auth_path}

length-fors_secret : (K : Seeded) (sk : List ℕ) (t l i : ℕ) → HasLength K.suite K.n → length (fors_secret K sk t l i) ≡ K.n
unfolding fors_secret
length-fors_secret K sk t l i law = law.prf _ _ _

length-fors_opened : (K : Seeded) (sk : List ℕ) (t l a : ℕ) (x : List ℕ) (i : ℕ) → HasLength K.suite K.n → length (fors_opened K sk t l a x i) ≡ (1 + a) * K.n
unfolding fors_opened
length-fors_opened K sk t l a x i law =
    let y = leaf_index a x i in
    rw (length-append (fors_secret K sk t l y) (fors_auth_path K sk t l y a), length-fors_secret K sk t l y law, length-merkle_auth_path K (fors_place t l) (fors_leaf K sk t l) y a law (λ k. length-fors_leaf K sk t l k law))
    (omega arith)

-- one opened secret leads to the root of its tree
root_of_opened : (K : Seeded) (sk : List ℕ) (t l k a : ℕ) (x : List ℕ) (i : ℕ) → HasLength K.suite K.n → i < k → slice_index x i < 2 ^ a → checked_fors_node K t l a (opened_leaves K sk t l k a x) x i a ≡ fors_node K sk t l a i
unfolding checked_fors_node opened_leaves fors_opened fors_leaf
root_of_opened K sk t l k a x i law below small =
    let y = leaf_index a x i in
    let secret = fors_secret K sk t l y in
    let path = fors_auth_path K sk t l y a in
    let cut : part ((1 + a) * K.n) (joined (fors_opened K sk t l a x) k) i ≡ secret ++ path
    = part-joined (fors_opened K sk t l a x) ((1 + a) * K.n) k i (λ c. length-fors_opened K sk t l a x c law) below in
    let size = length-fors_secret K sk t l y law in
    let first : take K.n (secret ++ path) ≡ secret = take_front K.n secret path size in
    let rest : drop K.n (secret ++ path) ≡ path = drop_front K.n secret path size in
    let top : y / 2 ^ a ≡ i = div-mul-add i (2 ^ a) (slice_index x i) small in
    rw (cut, first, rest)
    (climb-merkle_auth_path K (fors_place t l) (fors_leaf K sk t l) y a a law (λ c. length-fors_leaf K sk t l c law) (omega arith)
    ∙ ap (λ e. merkle K (fors_place t l) (fors_leaf K sk t l) a e) top)

-- all of them lead to the key
pub fors_pk_from_sig-signature : (K : Seeded) (sk : List ℕ) (t l k a : ℕ) (md : List ℕ) → HasLength K.suite K.n → fors_pk_from_sig K t l k a (fors_sig K sk t l k a md) md ≡ fors_pk K sk t l k a
unfolding fors_pk_from_sig fors_pk
fors_pk_from_sig-signature K sk t l k a md law =
    ap (K.suite.t K.seed (address_bytes 0 t fors_roots_type l 0 0))
    (joined_same _ _ k (λ i below. root_of_opened K sk t l k a (digits md a k) i law below (digits_below md a k i below)))

pub length-fors_sig : (K : Seeded) (sk : List ℕ) (t l k a : ℕ) (md : List ℕ) → HasLength K.suite K.n → length (fors_sig K sk t l k a md) ≡ forest_size K.n k a
unfolding opened_leaves
length-fors_sig K sk t l k a md law =
    let x = digits md a k in
    length-joined (fors_opened K sk t l a x) ((1 + a) * K.n) k (λ i. length-fors_opened K sk t l a x i law)

-- a leaf of a tree of a forest is a leaf of the forest
pub index_in_forest : (i digit k a : ℕ) → i < k → digit < 2 ^ a → i * 2 ^ a + digit < k * 2 ^ a
index_in_forest i digit k a tree below =
    let whole : (i + 1) * 2 ^ a ≤ k * 2 ^ a = mul-le (i + 1) (2 ^ a) k (2 ^ a) (omega arith) (omega arith) in
    omega (arith, whole)
