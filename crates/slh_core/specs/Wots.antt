-- Chains of hashes and key pairs (FIPS 205, section 5). K is the suite with its public seed, sk the
-- secret seed. A key pair stands at layer j, tree t and leaf l, and c is the number of a chain.
use Rattle.std.specs.Prelude.{ℕ, zero, suc, ◌+◌, ◌-◌, List, nat_lt, slice_index, if◌then◌else◌}
use Rattle.slh_core.specs.Suite.{Seeded}
use Rattle.slh_core.specs.Address.{address_bytes, wots_hash_type, wots_pk_type, wots_prf_type}
use Rattle.slh_core.specs.Bytes.{joined, part}
use Rattle.slh_core.specs.Digits.{wots_digits}
use Rattle.slh_core.specs.Parameters.{chain_count}

module _ (K : Seeded) (j t l c : ℕ) where
  -- x, taken q steps on from step i (algorithm 5)
  unfoldable pub chain : List ℕ → ℕ → ℕ → List ℕ
  chain x i zero = x
  chain x i (suc q) =
      K.suite.f K.seed (address_bytes j t wots_hash_type l c (i + q)) (chain x i q)

module _ (K : Seeded) (sk : List ℕ) (j t l : ℕ) where
  -- the secret at the start of chain c
  abbrev pub chain_secret : ℕ → List ℕ
  chain_secret c = K.suite.prf K.seed (address_bytes j t wots_prf_type l c 0) sk

  -- the key's own chain c after q steps
  abbrev pub chain_value : ℕ → ℕ → List ℕ
  chain_value c q = chain K j t l c (chain_secret c) 0 q

  -- the public key: the hash of the ends of all chains (algorithm 6)
  unfoldable pub wots_pk : List ℕ
  wots_pk =
      K.suite.t K.seed (address_bytes j t wots_pk_type l 0 0)
      (joined (λ c. chain_value c 15) (chain_count K.n))

  -- each chain as far as its digit says
  unfoldable pub chain_values : List ℕ → List ℕ
  chain_values w = joined (λ c. chain_value c (slice_index w c)) (chain_count K.n)

  -- chain c as far as its digit says; where that is no digit, its part of other bytes
  abbrev pub value_or : List ℕ → List ℕ → ℕ → List ℕ
  value_or old w c =
      let digit = slice_index w c in
      if nat_lt digit 16 then chain_value c digit else part K.n old c

  -- the signature of a message (algorithm 7)
  abbrev pub wots_sig : List ℕ → List ℕ
  wots_sig m = chain_values (wots_digits K.n m)

module _ (K : Seeded) (j t l : ℕ) (sig w : List ℕ) where
  -- chain c at step q, where the signature has its value at the step that its digit says
  abbrev pub checked_chain : ℕ → ℕ → List ℕ
  checked_chain c q = chain K j t l c (part K.n sig c) (slice_index w c) (q - slice_index w c)

  -- all chains at their ends
  unfoldable pub checked_ends : List ℕ
  checked_ends = joined (λ c. checked_chain c 15) (chain_count K.n)

module _ (K : Seeded) (j t l : ℕ) where
  -- the public key that a signature of a message leads to (algorithm 8)
  unfoldable pub wots_pk_from_sig : List ℕ → List ℕ → List ℕ
  wots_pk_from_sig sig m =
      K.suite.t K.seed (address_bytes j t wots_pk_type l 0 0)
      (checked_ends K j t l sig (wots_digits K.n m))
