-- How many hash calls the algorithms of FIPS 205 make: calls of F, H, T and PRF. len is the number
-- of chains of a key pair, w the digits that it signs, hp the height of a tree, d the number of
-- layers. A forest has k trees of height a.
use Rattle.std.specs.Prelude.{ℕ, ◌+◌, ◌-◌, ◌*◌, ◌^◌, List, sum}
use Rattle.slh_core.specs.Parameters.{Scheme, chain_count}

-- the public key of a key pair: for each chain its secret and 15 steps, and the hash of all ends
-- (algorithm 6)
abbrev pub wots_pk_cost : ℕ → ℕ
wots_pk_cost len = 16 * len + 1

-- its signature: for each chain its secret, and as many steps as its digit says (algorithm 7)
abbrev pub wots_sign_cost : ℕ → List ℕ → ℕ
wots_sign_cost len w = len + sum w

abbrev pub wots_sign_bound : ℕ → ℕ
wots_sign_bound len = 16 * len

-- the public key that a signature leads to: the steps that are left of each chain, and the hash of
-- all ends (algorithm 8)
abbrev pub wots_pk_from_sig_cost : ℕ → List ℕ → ℕ
wots_pk_from_sig_cost len w = 15 * len - sum w + 1

abbrev pub wots_pk_from_sig_bound : ℕ → ℕ
wots_pk_from_sig_bound len = 15 * len + 1

-- a node at height z: 2 ^ z leaves, each at the cost of a leaf, and the nodes above them, of which
-- there is one fewer
abbrev pub node_cost : ℕ → ℕ → ℕ
node_cost leaf z = 2 ^ z * (leaf + 1) - 1

-- the siblings on the way up a tree of height h: the nodes at all heights below h
abbrev pub auth_path_cost : ℕ → ℕ → ℕ
auth_path_cost leaf h = 2 ^ h * (leaf + 1) - (leaf + 1) - h

-- a node of a layer's tree (algorithm 9)
abbrev pub xmss_node_cost : ℕ → ℕ → ℕ
xmss_node_cost len z = node_cost (wots_pk_cost len) z

-- a signature under a leaf of a tree (algorithm 10); with the root, as many calls as the root alone
abbrev pub xmss_sign_cost : ℕ → ℕ → List ℕ → ℕ
xmss_sign_cost len hp w = wots_sign_cost len w + auth_path_cost (wots_pk_cost len) hp

-- the root that such a signature leads to (algorithm 11)
abbrev pub xmss_pk_from_sig_cost : ℕ → ℕ → List ℕ → ℕ
xmss_pk_from_sig_cost len hp w = wots_pk_from_sig_cost len w + hp

abbrev pub xmss_pk_from_sig_bound : ℕ → ℕ → ℕ
xmss_pk_from_sig_bound len hp = wots_pk_from_sig_bound len + hp

-- the signatures of all layers: each with the root, which the layer above signs (algorithm 12)
abbrev pub ht_sign_cost : ℕ → ℕ → ℕ → ℕ
ht_sign_cost len hp d = d * xmss_node_cost len hp

-- what they lead to (algorithm 13)
abbrev pub ht_verify_bound : ℕ → ℕ → ℕ → ℕ
ht_verify_bound len hp d = d * xmss_pk_from_sig_bound len hp

-- a leaf of a forest: a secret and its hash
abbrev pub fors_leaf_cost : ℕ
fors_leaf_cost = 2

-- a node of a forest (algorithm 15)
abbrev pub fors_node_cost : ℕ → ℕ
fors_node_cost z = node_cost fors_leaf_cost z

-- a forest's signature: in each tree a secret, and the siblings on the way up (algorithm 16)
abbrev pub fors_sign_cost : ℕ → ℕ → ℕ
fors_sign_cost k a = k * (1 + auth_path_cost fors_leaf_cost a)

-- the public key that such a signature leads to: in each tree a leaf and the way up, and the hash
-- of all roots (algorithm 17)
abbrev pub fors_pk_from_sig_cost : ℕ → ℕ → ℕ
fors_pk_from_sig_cost k a = k * (1 + a) + 1

-- a forest's public key: all roots and their hash; with a signature, as many calls as without
abbrev pub fors_pk_cost : ℕ → ℕ → ℕ
fors_pk_cost k a = k * fors_node_cost a + 1

-- the keys of a scheme: the root of its top tree (algorithm 18)
abbrev pub slh_keygen_cost : Scheme → ℕ
slh_keygen_cost Z = xmss_node_cost (chain_count Z.n) Z.hp

-- a signature: the forest's with its key, and those of all layers (algorithm 19)
abbrev pub slh_sign_cost : Scheme → ℕ
slh_sign_cost Z = fors_pk_cost Z.k Z.a + ht_sign_cost (chain_count Z.n) Z.hp Z.d

-- the check of a signature (algorithm 20)
abbrev pub slh_verify_bound : Scheme → ℕ
slh_verify_bound Z = fors_pk_from_sig_cost Z.k Z.a + ht_verify_bound (chain_count Z.n) Z.hp Z.d
