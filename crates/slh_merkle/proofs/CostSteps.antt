-- The costs of nodes and of the siblings on a way up, height by height.
use Rattle.std.proofs.Common.{◌≡◌, ℕ, zero, suc, ◌+◌, ◌*◌, ◌^◌, ◌≤◌, arith}
use Rattle.std.proofs.lemmas.Nat.{pow-add}
use Rattle.std.proofs.Math.Nat.{pow-suc}
use Rattle.slh_core.specs.Costs.{node_cost, auth_path_cost, fors_leaf_cost, fors_node_cost, fors_sign_cost, fors_pk_from_sig_cost, fors_pk_cost}
use Rattle.slh_merkle.proofs.Powers.{twice_more}

-- a leaf for each of 2 ^ z is more than one leaf and a step for each height
path_room : (leaf z : ℕ) → z + (leaf + 1) ≤ 2 ^ z * (leaf + 1)
path_room leaf zero = omega arith
path_room leaf (suc z) = rw (pow-suc 2 z) (omega (arith, path_room leaf z))

-- one sibling more
pub auth_path_cost-more : (leaf z : ℕ) → auth_path_cost leaf (z + 1) ≡ auth_path_cost leaf z + node_cost leaf z
auth_path_cost-more leaf z = omega (arith, path_room leaf z, twice_more z (leaf + 1))

-- a node over all of its leaves, with a step for each node above a first leaf
pub node_cost-whole : (leaf z : ℕ) → node_cost leaf z + 1 ≡ 2 ^ z * (leaf + 1)
node_cost-whole leaf z = omega (arith, path_room leaf z)

-- a node over nodes that stand at the same height
pub node_cost-above : (leaf low above : ℕ) → 2 ^ above * (node_cost leaf low + 1) ≡ node_cost leaf (low + above) + 1
node_cost-above leaf low above =
    rw (node_cost-whole leaf low, node_cost-whole leaf (low + above), pow-add 2 low above) (omega arith)

-- a leaf, the siblings on its way up and the way up itself: each node below the root once
pub node_cost-path : (leaf h : ℕ) → leaf + auth_path_cost leaf h + h ≡ node_cost leaf h
node_cost-path leaf h = omega (arith, path_room leaf h)

pub one_more : (j x : ℕ) → (j + 1) * x ≡ j * x + x
one_more j x = omega arith

in_all_trees : (k x y z : ℕ) → z ≡ (1 + x) + (1 + y) → k * (1 + x) + (k * (1 + y) + 1) ≡ k * z + 1
in_all_trees k x y z e = rw e (omega arith)

-- a forest's signature and the way from it to the key: as many calls as the key alone
pub fors_pk_cost-signed : (k a : ℕ) → fors_sign_cost k a + fors_pk_from_sig_cost k a ≡ fors_pk_cost k a
fors_pk_cost-signed k a =
    in_all_trees k (auth_path_cost fors_leaf_cost a) a (fors_node_cost a) (omega (arith, node_cost-path fors_leaf_cost a))

-- rows in eights, and a row and what is left of it
pub eight_more : (s g x : ℕ) → s + 8 * g * x + 8 * x ≡ s + 8 * (g + 1) * x
eight_more s g x = omega arith

pub rows_cost : (s a b x count : ℕ) → count ≡ a + b → s + a * x + b * x ≡ s + count * x
rows_cost s a b x count whole = rw whole (omega arith)

-- all leaves of a tree, and a step for each node above them
pub node_cost-leaves : (s leaf z made hashed : ℕ) → made ≡ s + 2 ^ z * leaf → hashed + 1 ≡ made + 2 ^ z → hashed ≡ s + node_cost leaf z
node_cost-leaves s leaf z made hashed first above = omega (arith, node_cost-whole leaf z, first, above)

-- a hash of each tree, and one at each of its heights
pub trees_climbed : (k a : ℕ) → k + a * k ≡ k * (1 + a)
trees_climbed k a = grind arith
