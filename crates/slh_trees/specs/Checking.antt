-- What a signature leads to, by its bytes and public values alone (FIPS 205, algorithm 20). Z is the
-- scheme.
use Rattle.std.specs.Prelude.{ℕ, ◌+◌, ◌*◌, List, take, drop, slice_range}
use Rattle.slh_core.specs.Parameters.{Scheme}
use Rattle.slh_core.specs.Suite.{seeded}
use Rattle.slh_merkle.specs.Checking.{checked_message, forest_size, fors_pk_from_sig}
use Rattle.slh_merkle.specs.Hypertree.{layer_size}
use Rattle.slh_trees.specs.MessageDigest.{split_digest}

-- how many bytes a signature has
abbrev pub signature_size : Scheme → ℕ
signature_size Z = Z.n + forest_size Z.n Z.k Z.a + Z.d * layer_size Z.n Z.hp

-- the forest's part of a signature, after the randomizer
abbrev pub forest_of : Scheme → List ℕ → List ℕ
forest_of Z sig = slice_range sig Z.n (Z.n + forest_size Z.n Z.k Z.a)

-- the parts of all layers, from layer 0 up
abbrev pub layers_of : Scheme → List ℕ → List ℕ
layers_of Z sig = drop (Z.n + forest_size Z.n Z.k Z.a) sig

-- the root that a signature leads to, for a digest and a public seed s
unfoldable pub digest_root : Scheme → List ℕ → List ℕ → List ℕ → List ℕ
digest_root Z s digest sig =
    let K = seeded Z.suite Z.n s in
    let parts = split_digest Z digest in
    let key = fors_pk_from_sig K parts.tree parts.leaf Z.k Z.a (forest_of Z sig) parts.md in
    checked_message K Z.hp parts.tree parts.leaf (layers_of Z sig) key Z.d

-- the root that a signature of a message leads to, under a public seed s and a key's root
abbrev pub checked_root : Scheme → List ℕ → List ℕ → List ℕ → List ℕ → List ℕ
checked_root Z s root message sig =
    digest_root Z s (Z.suite.h_msg (take Z.n sig) s root message) sig
