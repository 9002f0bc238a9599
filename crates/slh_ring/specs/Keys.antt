-- The keys that a master secret and a path give. Z is the scheme, of values of n bytes, and NAME
-- the parameter set's name.
use Rattle.std.specs.Prelude.{ℕ, ◌*◌, List, ◌∷◌, ◌++◌, length, take, drop, map, codes}
use Rattle.hmac_sha256.specs.Hkdf.{hkdf_expand, hkdf_extract}
use Rattle.sha256_lanes.specs.Sha256.{sha256}
use Rattle.slh_core.specs.Bytes.{part}
use Rattle.slh_core.specs.Parameters.{Scheme}
use Rattle.slh_trees.specs.Keys.{signing_key_bytes}
use Rattle.slh_ring.specs.Records.{Entry, path_bytes, record_bytes}

-- the pseudorandom key that all keys of a master are expanded from (RFC 5869, 2.2)
unfoldable pub ring_prk : List ℕ → List ℕ
ring_prk master = hkdf_extract (codes "slh-ring") master

-- what the key of a path is expanded with: the set's name and the path
abbrev pub key_info : List ℕ → List ℕ → List ℕ
key_info name path = codes "key" ++ length name ∷ (name ++ path_bytes path)

-- the three seeds of n bytes, one after the other (RFC 5869, 2.3)
unfoldable pub path_seeds : List ℕ → List ℕ → List ℕ → ℕ → List ℕ
path_seeds name master path n = hkdf_expand (ring_prk master) (key_info name path) (3 * n)

-- the signing key of the three: secret seed, PRF key, public seed
abbrev pub ring_key : Scheme → List ℕ → List ℕ → List ℕ → List ℕ
ring_key Z name master path =
    let seeds = path_seeds name master path Z.n in
    signing_key_bytes Z (part Z.n seeds 0) (part Z.n seeds 1) (part Z.n seeds 2)

-- the 8 bytes that tell a key: the first of the digest of its verifying key
unfoldable pub key_tag : Scheme → List ℕ → List ℕ → List ℕ → List ℕ
key_tag Z name master path = take 8 (sha256 (drop (2 * Z.n) (ring_key Z name master path)))

-- a path with the bytes that tell its key
abbrev pub tagged : Scheme → List ℕ → List ℕ → List ℕ → Entry
tagged Z name master path = record { path = path; tag = key_tag Z name master path }

-- the record of a ring's paths
abbrev pub ring_bytes : Scheme → List ℕ → List ℕ → List (List ℕ) → List ℕ
ring_bytes Z name master paths = record_bytes name (map (tagged Z name master) paths)
