-- The messages of T for key pairs side by side, and the public keys that it gives.
use Rattle.std.proofs.Common.{◌≡◌, ℕ, ◌+◌, ◌-◌, ◌*◌, ◌<◌, ◌≤◌, ◌∙◌, List, [], ◌++◌, length, slice_index_or, take, drop, ap, sym, refl, arith, replicate, length-append, length-take}
use Rattle.std.proofs.lemmas.List.{length-replicate}
use Rattle.std.proofs.lemmas.Nat.{mul-le}
use Rattle.std.proofs.lemmas.Slice.{take-put_mid}
use borrow.Rule.Slice.PartMut.{put_mid}
use Rattle.slh_core.specs.Address.{address_bytes, compressed_address, wots_pk_type}
use Rattle.slh_core.specs.Bytes.{joined, part}
use Rattle.slh_core.specs.Parameters.{chain_count}
use Rattle.slh_core.proofs.Joins.{joined_more, joined_same, length-joined_below, length-part, part-joined_below}
use Rattle.slh_hash.proofs.Grouped.{joined_add}

-- one message more
pub message_put : (f : ℕ → List ℕ) (many len k : ℕ) (cur made : List ℕ) → length cur ≡ many * len → k < many → take (k * len) cur ≡ joined f k
    → length made ≡ len → made ≡ f k → take ((k + 1) * len) (put_mid (k * len) ((k + 1) * len - k * len) cur made) ≡ joined f (k + 1)
message_put f many len k cur made whole low front size is =
    let within : (k + 1) * len ≤ many * len = mul-le (k + 1) len many len (omega (arith, low)) (omega arith) in
    let next : (k + 1) * len ≡ k * len + len = omega arith in
    take-put_mid (k * len) ((k + 1) * len - k * len) cur made ((k + 1) * len) (omega (arith, next, size)) (omega (arith, next, within, whole))
    ∙ rw (front, is) (sym (joined_more f k))

length-head : (j t kind l c q : ℕ) → length (compressed_address (address_bytes j t kind l c q)) ≡ 22
unfolding address_bytes
length-head j t kind l c q = refl

module _ (n count : ℕ) (ends : List ℕ) (j t l : ℕ) where
  -- the address of the public key of key pair k, and the ends of its chains
  abbrev pub pk_at : ℕ → List ℕ
  pk_at k = address_bytes j t wots_pk_type (l + k) 0 0

  abbrev pub ends_of : ℕ → List ℕ
  ends_of k = joined (λ c. part n ends (8 * c + k)) count

  abbrev pub message : ℕ → List ℕ
  message k = compressed_address (pk_at k) ++ ends_of k

  pub length-message : (k : ℕ) → length ends ≡ 8 * count * n → k < 8 → length (message k) ≡ 22 + count * n
  length-message k whole low =
      let sizes : (c : ℕ) → c < count → length (part n ends (8 * c + k)) ≡ n = λ c below.
      let inside : (8 * c + k + 1) * n ≤ 8 * count * n = mul-le (8 * c + k + 1) n (8 * count) n (omega (arith, below, low)) (omega arith) in
      length-part n (8 * c + k) ends (omega (arith, inside, whole)) in
      omega (
        arith,
        length-append (compressed_address (pk_at k)) (ends_of k),
        length-head j t wots_pk_type (l + k) 0 0,
        length-joined_below (λ c. part n ends (8 * c + k)) n count sizes,
      )

  -- public keys, from the digests of their messages
  pub keys_hashed : (digest : List ℕ → List ℕ) (many first : ℕ) (block rows out : List ℕ) (digests : List (List ℕ)) → length ends ≡ 8 * count * n → first + many ≤ 8
      → rows ≡ joined (λ k. message (first + k)) many
      → ((k : ℕ) → k < many → slice_index_or digests k [] ≡ digest (block ++ take (22 + count * n) (drop (k * (22 + count * n)) rows)))
      → out ≡ joined (λ k. take n (slice_index_or digests k [])) many
      → out ≡ joined (λ k. take n (digest (block ++ message (first + k)))) many
  keys_hashed digest many first block rows out digests whole few laid hashed made =
      let len : ℕ = 22 + count * n in
      let f : ℕ → List ℕ = λ k. message (first + k) in
      let sizes : (k : ℕ) → k < many → length (f k) ≡ len = λ k low. length-message (first + k) whole (omega (arith, low, few)) in
      made ∙ joined_same _ _ many (λ k low.
      let next : (k + 1) * len - k * len ≡ len = omega arith in
      let row : take len (drop (k * len) rows) ≡ f k =
      ap (λ (m : ℕ). take m (drop (k * len) rows)) (sym next) ∙ ap (λ (xs : List ℕ). part len xs k) laid ∙ part-joined_below f len many k sizes low in
      ap (take n) (hashed k low ∙ ap (λ (x : List ℕ). digest (block ++ x)) row))

-- the ends of a key pair's chains, and the front of a buffer
pub ends_fit : (count m n : ℕ) → m ≡ n → n ≤ 32 → count ≤ 67 → count * m ≤ 2144
ends_fit count m n same small few = omega (arith, mul-le count m 67 32 few (omega (arith, same, small)))

pub eight_ends_fit : (count m n : ℕ) → m ≡ n → n ≤ 32 → count ≡ chain_count n → 8 * count * m ≤ 17152
eight_ends_fit count m n same small all =
    omega (arith, mul-le (8 * count) m 536 32 (omega (arith, all, small)) (omega (arith, same, small)))

pub length-front : (k many : ℕ) → k ≤ many → length {A = ℕ} (take k (replicate many 0)) ≡ k
length-front k many fits =
    let zeros : List ℕ = replicate many 0 in
    omega (arith, fits, length-take k zeros, length-replicate {A = ℕ} many 0)

-- four and four are eight
pub two_fours : (f g h : ℕ → List ℕ) (a b : List ℕ) → a ≡ joined g 4 → b ≡ joined h 4 → ((k : ℕ) → g k ≡ f k) → ((k : ℕ) → h k ≡ f (4 + k)) → a ++ b ≡ joined f 8
two_fours f g h a b first second same later =
    rw (first, second) (rw (joined_same g f 4 (λ k low. same k), joined_same h (λ k. f (4 + k)) 4 (λ k low. later k)) (sym (joined_add f 4 4)))
