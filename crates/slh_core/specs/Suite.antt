-- The hash functions of a parameter set (FIPS 205, section 4.1).
use Rattle.std.specs.Prelude.{◌≡◌, ℕ, ◌<◌, List, length, slice_index}

-- F, H, T and PRF are of the public seed, the 32 bytes of an address, and the input; H's input is a
-- left and a right one, PRF's the secret seed
pub record Suite : Type 0 where
  pub f : List ℕ → List ℕ → List ℕ → List ℕ
  pub h : List ℕ → List ℕ → List ℕ → List ℕ → List ℕ
  pub t : List ℕ → List ℕ → List ℕ → List ℕ
  pub prf : List ℕ → List ℕ → List ℕ → List ℕ
  -- of the PRF key, the randomizer and the message
  pub prf_msg : List ℕ → List ℕ → List ℕ → List ℕ
  -- of the signature's randomizer, the public seed, the root and the message
  pub h_msg : List ℕ → List ℕ → List ℕ → List ℕ → List ℕ

-- each function but the digest gives n bytes
pub record HasLength (S : Suite) (n : ℕ) : Type 0 where
  pub f : (s a x : List ℕ) → length (S.f s a x) ≡ n
  pub h : (s a l r : List ℕ) → length (S.h s a l r) ≡ n
  pub t : (s a x : List ℕ) → length (S.t s a x) ≡ n
  pub prf : (s a sk : List ℕ) → length (S.prf s a sk) ≡ n
  pub prf_msg : (key opt message : List ℕ) → length (S.prf_msg key opt message) ≡ n

-- what H and T give, which the layer above signs, is bytes
pub record HasBytes (S : Suite) : Type 0 where
  pub h : (s a l r : List ℕ) (k : ℕ) → slice_index (S.h s a l r) k < 256
  pub t : (s a x : List ℕ) (k : ℕ) → slice_index (S.t s a x) k < 256

-- the digest of a message has m bytes
pub record HasDigestLength (S : Suite) (m : ℕ) : Type 0 where
  pub h_msg : (r s root message : List ℕ) → length (S.h_msg r s root message) ≡ m

-- a suite with the number of its bytes and a public seed, for which chains and trees are computed
pub record Seeded : Type 0 where
  pub suite : Suite
  pub n : ℕ
  pub seed : List ℕ

abbrev pub seeded : Suite → ℕ → List ℕ → Seeded
seeded S n s = record { suite = S; n = n; seed = s }
