-- Keys (FIPS 205, section 9.1). A signing key has four parts of n bytes: the secret seed, the PRF
-- key, the public seed, and the root. A verifying key is the last two.
use Rattle.std.specs.Prelude.{◌≡◌, ℕ, ◌-◌, List, ◌++◌}
use Rattle.slh_core.specs.Bytes.{part}
use Rattle.slh_core.specs.Parameters.{Scheme}
use Rattle.slh_core.specs.Suite.{seeded}
use Rattle.slh_merkle.specs.Xmss.{xmss_node}

-- the root of the top tree of a public seed s and a secret seed sk (algorithm 18)
unfoldable pub top_root : Scheme → List ℕ → List ℕ → List ℕ
top_root Z s sk = xmss_node (seeded Z.suite Z.n s) sk (Z.d - 1) 0 Z.hp 0

-- the signing key of three seeds
abbrev pub signing_key_bytes : Scheme → List ℕ → List ℕ → List ℕ → List ℕ
signing_key_bytes Z sk prf s = sk ++ prf ++ s ++ top_root Z s sk

-- the key's root is the root of its seeds
abbrev pub IsTrueKey : Scheme → List ℕ → Type 0
IsTrueKey Z key = key ≡ signing_key_bytes Z (part Z.n key 0) (part Z.n key 1) (part Z.n key 2)
