-- A suite of one byte, whose values can be computed by hand. All sums are modulo 256.
use Rattle.std.proofs.Common.{lit<}
use Rattle.std.proofs.lemmas.Nat.{mod_below}
use Rattle.std.specs.Prelude.{ℕ, zero, suc, ◌<◌, [], ◌∷◌, ◌+◌, ◌*◌, ◌/◌, ◌%◌, sum, slice_index}
use Rattle.std.specs.Prelude.{refl}
use Rattle.slh_core.specs.Suite.{Suite, HasLength, HasBytes, HasDigestLength}

abbrev pub toy : Suite
toy = record {
  f = λ s a x. (slice_index x 0 / 2 + slice_index s 0 + slice_index a 31) % 256 ∷ [];
  h = λ s a l r.
      (slice_index l 0 / 2 + 3 * slice_index r 0 + slice_index s 0
      + slice_index a 27 + slice_index a 31) % 256 ∷ [];
  t = λ s a x. (slice_index s 0 + sum x) % 256 ∷ [];
  prf = λ s a sk.
      (slice_index sk 0 + slice_index a 19 + 5 * slice_index a 23 + 7 * slice_index a 27
      + 11 * slice_index a 31 + 13 * slice_index a 3 + 17 * slice_index a 15) % 256 ∷ [];
  prf_msg = λ key opt message. (slice_index key 0 + slice_index opt 0 + sum message) % 256 ∷ [];
  h_msg = λ r s root message.
      let first = slice_index r 0 + slice_index s 0 + sum message in
      first % 256 ∷ (first + 37) % 256 ∷ (first + 74) % 256 ∷ [];
}

pub toy_lengths : HasLength toy 1
toy_lengths = record {
  f = λ s a x. refl;
  h = λ s a l r. refl;
  t = λ s a x. refl;
  prf = λ s a sk. refl;
  prf_msg = λ key opt message. refl;
}

one_byte : (x k : ℕ) → slice_index (x % 256 ∷ []) k < 256
one_byte x zero = mod_below x 256 (lit< tt)
one_byte x (suc k) = lit< tt

pub toy_bytes : HasBytes toy
toy_bytes = record {
  h = λ s a l r k. one_byte _ k;
  t = λ s a x k. one_byte _ k;
}

pub toy_digest_length : HasDigestLength toy 3
toy_digest_length = record { h_msg = λ r s root message. refl }
