-- Eight key pairs of a tree, side by side.
use Rattle.std.specs.Prelude.{◌≡◌, ℕ, ◌+◌, ◌<◌, List, take}
use Rattle.sha256_lanes.specs.Eight.{head_bytes, lane_bytes}
use Rattle.slh_core.specs.Address.{address_bytes, compressed_address}
use Rattle.slh_core.specs.Address.{wots_hash_type, wots_prf_type}
use Rattle.slh_core.specs.Suite.{Seeded, seeded}
use Rattle.slh_hash.specs.Sha2.{sha2_category_1}
use Rattle.slh_hash.specs.declared.pairs.PairRow.{PairRow}

-- F and PRF of values of n bytes, which all parameter sets share, with a public seed
abbrev pub short_suite : ℕ → List ℕ → Seeded
short_suite n s = seeded (sha2_category_1 n 0) n s

-- Each lane has the secret seed sk, and the heads of chain 0 of a key pair of tree t at layer j: of
-- key pair l in lane 0, and so on.
pub record IsRow (row : PairRow) (n : ℕ) (sk : List ℕ) (j t l : ℕ) : Type 0 where
  pub seed : (k : ℕ) → k < 8 → take n (lane_bytes row.seed k) ≡ sk
  pub secrets : (k : ℕ) → k < 8
      → head_bytes row.secrets k ≡ compressed_address (address_bytes j t wots_prf_type (l + k) 0 0)
  pub steps : (k : ℕ) → k < 8
      → head_bytes row.steps k ≡ compressed_address (address_bytes j t wots_hash_type (l + k) 0 0)
