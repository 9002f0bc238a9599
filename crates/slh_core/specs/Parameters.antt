-- The sizes of a parameter set, and which of them are valid (FIPS 205, section 11).
use Rattle.std.specs.Prelude.{◌≡◌, ℕ, ◌+◌, ◌-◌, ◌*◌, ◌/◌, ◌^◌, ◌<◌, ◌≤◌}
use Rattle.slh_core.specs.Suite.{Suite}

-- a suite of values of n bytes, with d layers of trees of height hp, and k trees of height a below
pub record Scheme : Type 0 where
  pub suite : Suite
  pub n : ℕ
  pub hp : ℕ
  pub d : ℕ
  pub a : ℕ
  pub k : ℕ

abbrev pub scheme_of : Suite → ℕ → ℕ → ℕ → ℕ → ℕ → Scheme
scheme_of S n hp d a k = record { suite = S; n = n; hp = hp; d = d; a = a; k = k }

-- how many bytes hold that many bits
abbrev pub bytes_for : ℕ → ℕ
bytes_for bits = (bits + 7) / 8

-- how many chains a key pair has for a message of n bytes
abbrev pub chain_count : ℕ → ℕ
chain_count n = 2 * n + 3

-- A message has 2n digits, and a key pair has a chain for each of them and three for the checksum.
-- The standard has three from n at 9 on (algorithm 1), and so for each of its sets.
pub record IsValidWots (n digits chains : ℕ) : Type 0 where
  pub n_low : 1 ≤ n
  pub n_high : n ≤ 32
  pub message_len : digits ≡ 2 * n
  pub signature_len : chains ≡ chain_count n

-- the height of a tree
pub record IsValidXmss (hp : ℕ) : Type 0 where
  pub height_low : 1 ≤ hp
  pub height_high : hp ≤ 31

-- d layers of trees of height hp, and the height h of all of them
pub record IsValidHypertree (hp d h : ℕ) : Type 0 where
  pub layers : 1 ≤ d
  pub height : h ≡ d * hp
  pub tree_bits : h - hp ≤ 64

-- k trees of height a, md bytes for their digits, and m bytes for these, the tree and the leaf
pub record IsValidFors (hp h k a md m : ℕ) : Type 0 where
  pub bits_low : 1 ≤ a
  pub bits_high : a ≤ 16
  pub trees_low : 1 ≤ k
  pub trees_high : k ≤ 64
  pub leaves : k * 2 ^ a < 2 ^ 32
  pub forest_len : md ≡ bytes_for (k * a)
  pub digest_len : m ≡ md + bytes_for (h - hp) + bytes_for hp
