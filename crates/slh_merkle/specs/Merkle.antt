-- Binary trees of hashes over any leaves, and the way up in them. K is the suite with its public
-- seed.
use Rattle.std.specs.Prelude.{ℕ, zero, suc, ◌+◌, ◌-◌, ◌*◌, ◌/◌, ◌%◌, ◌^◌, ◌==◌, if◌then◌else◌, List}
use Rattle.slh_core.specs.Address.{address_bytes}
use Rattle.slh_core.specs.Bytes.{joined, part}
use Rattle.slh_core.specs.Suite.{Seeded}

-- where a tree stands: the layer, the tree, the type and the first word of its nodes' addresses
pub record Place : Type 0 where
  pub layer : ℕ
  pub tree : ℕ
  pub kind : ℕ
  pub word : ℕ

-- the address of the node with index i at height z
abbrev pub node_bytes : Place → ℕ → ℕ → List ℕ
node_bytes B z i = address_bytes B.layer B.tree B.kind B.word z i

-- the index of the other child of the same node
abbrev pub sibling_of : ℕ → ℕ
sibling_of y = if y % 2 == 0 then y + 1 else y - 1

module _ (K : Seeded) (B : Place) (leaves : ℕ → List ℕ) where
  -- the node with index i at height z: the hash of its left and its right child
  unfoldable pub merkle : ℕ → ℕ → List ℕ
  merkle zero i = leaves i
  merkle (suc z) i =
      K.suite.h K.seed (node_bytes B (suc z) i) (merkle z (2 * i)) (merkle z (2 * i + 1))

  -- the siblings on the way up from leaf y, for the first heights
  unfoldable pub merkle_auth_path : ℕ → ℕ → List ℕ
  merkle_auth_path y heights = joined (λ z. merkle z (sibling_of (y / 2 ^ z))) heights

module _ (K : Seeded) (B : Place) (x : List ℕ) (y : ℕ) (path : List ℕ) where
  -- the node at height z above x, which has index y at height 0, by the siblings that stand in a
  -- path
  unfoldable pub climb : ℕ → List ℕ
  climb zero = x
  climb (suc z) =
      let below = climb z in
      let beside = part K.n path z in
      let at = node_bytes B (suc z) (y / 2 ^ suc z) in
      if y / 2 ^ z % 2 == 0
      then K.suite.h K.seed at below beside
      else K.suite.h K.seed at beside below
