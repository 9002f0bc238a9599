use Rattle.std.proofs.Common.{refl}
use Rattle.slh_trees.proofs.digest.split_digest.Goals as goal

pub returns-clause-md : goal.returns-clause-md
returns-clause-md g c =
    rw (c.MD-md.ensures, c.forest_sizes.ensures.scheme, c.forest_sizes.ensures.forest_len) refl

pub returns-clause-tree : goal.returns-clause-tree
returns-clause-tree g c =
    rw (c.number_at-tree.ensures.value, c.MD-md.ensures, c.tree_bits-bits.ensures.value, c.forest_sizes.ensures.scheme, c.forest_sizes.ensures.forest_len) refl

pub returns-clause-leaf : goal.returns-clause-leaf
returns-clause-leaf g c =
    rw (c.number_at-leaf.ensures.value, c.bytes_of.ensures, c.MD-md.ensures, c.tree_bits-bits.ensures.value, c.H_PRIME.ensures, c.forest_sizes.ensures.scheme, c.forest_sizes.ensures.forest_len) refl
