-- What a key makes (FIPS 205, algorithm 19). Z is the scheme.
use Rattle.std.specs.Prelude.{ℕ, List, ◌++◌, Option, unwrap_or}
use Rattle.slh_core.specs.Bytes.{part}
use Rattle.slh_core.specs.Parameters.{Scheme}
use Rattle.slh_core.specs.Suite.{seeded}
use Rattle.slh_merkle.specs.Fors.{fors_pk, fors_sig}
use Rattle.slh_merkle.specs.Hypertree.{ht_sig}
use Rattle.slh_trees.specs.MessageDigest.{split_digest}

-- the signature of a digest under a public seed s and a secret seed sk: a randomizer, the forest's
-- part, and the layers' parts
unfoldable pub digest_signature : Scheme → List ℕ → List ℕ → List ℕ → List ℕ → List ℕ
digest_signature Z s sk rand digest =
    let K = seeded Z.suite Z.n s in
    let parts = split_digest Z digest in
    let key = fors_pk K sk parts.tree parts.leaf Z.k Z.a in
    rand
    ++ fors_sig K sk parts.tree parts.leaf Z.k Z.a parts.md
    ++ ht_sig K Z.hp sk parts.tree parts.leaf key Z.d

-- the signature of a message by a signing key, with a given randomizer
abbrev pub signature_with : Scheme → List ℕ → List ℕ → List ℕ → List ℕ
signature_with Z key rand message =
    let s = part Z.n key 2 in
    let digest = Z.suite.h_msg rand s (part Z.n key 3) message in
    digest_signature Z s (part Z.n key 0) rand digest

-- the signature of a message: the randomizer is made from the message and from n further bytes,
-- opt_rand, for which the public seed stands where none are given
abbrev pub signature_of : Scheme → List ℕ → Option (List ℕ) → List ℕ → List ℕ
signature_of Z key opt_rand message =
    let bytes = unwrap_or opt_rand (part Z.n key 2) in
    signature_with Z key (Z.suite.prf_msg (part Z.n key 1) bytes message) message
