-- The parts of a message's digest (FIPS 205, algorithms 19 and 20).
use Rattle.std.specs.Prelude.{ℕ, ◌+◌, ◌-◌, ◌*◌, ◌%◌, ◌^◌, List, take, slice_range}
use Rattle.slh_core.specs.Bytes.{number_of}
use Rattle.slh_core.specs.Parameters.{Scheme, bytes_for}

-- the bytes whose digits name a leaf in each tree of the forest; the tree and the leaf of layer 0
pub record DigestParts : Type 0 where
  pub md : List ℕ
  pub tree : ℕ
  pub leaf : ℕ

-- the number of bytes of a digest from a place on, of which the last bits count
unfoldable pub digest_number : List ℕ → ℕ → ℕ → ℕ
digest_number digest from bits =
    number_of (slice_range digest from (from + bytes_for bits)) % 2 ^ bits

abbrev pub split_digest : Scheme → List ℕ → DigestParts
split_digest Z digest =
    let md = bytes_for (Z.k * Z.a) in
    let tree_bits = (Z.d - 1) * Z.hp in
    record {
      md = take md digest;
      tree = digest_number digest md tree_bits;
      leaf = digest_number digest (md + bytes_for tree_bits) Z.hp;
    }
