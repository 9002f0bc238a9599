-- The heads of key pairs, and chains whose values stay words.
use Rattle.std.proofs.Common.{◌≡◌, ℕ, zero, suc, ◌+◌, ◌-◌, ◌*◌, ◌/◌, ◌%◌, ◌<◌, ◌≤◌, ◌∙◌, List, ◌++◌, length, take, drop, nat_lt, slice_index, if◌then◌else◌, refl, sym, ap, arith, replicate, add-one, inl, inr}
use Rattle.std.proofs.lemmas.Bool.{cases_order, le-ltb, lt-ltb}
use Rattle.std.proofs.lemmas.Nat.{mul-le}
use Rattle.std.proofs.lemmas.Slice.{drop-put_mid, take-put_mid}
use Rattle.std.specs.Int.{to_be_bytes, w32}
use borrow.Rule.Slice.PartMut.{put_mid}
use Rattle.slh_core.specs.Address.{address_bytes, compressed_address, wots_hash_type, wots_pk_type, wots_prf_type}
use Rattle.slh_core.specs.Bytes.{joined, part}
use Rattle.slh_core.specs.Parameters.{chain_count}
use Rattle.slh_core.specs.Suite.{HasLength, Seeded}
use Rattle.slh_core.specs.Wots.{chain, chain_secret, chain_value, checked_chain, checked_ends, value_or, wots_pk}
use Rattle.slh_core.proofs.Chains.{length-chain_value}
use Rattle.slh_core.proofs.Joins.{drop_later, joined_more, joined_same, part-joined}
use Rattle.slh_hash.proofs.Grouped.{group_more}
use Rattle.slh_hash.specs.Pairs.{short_suite}
use Rattle.slh_hash.specs.Sha2.{tweaked_hash_256}

-- the head of chain c, from that of chain 0
pub head_of_chain : (j t kind l c : ℕ) (head new : List ℕ)
    → head ≡ compressed_address (address_bytes j t kind l 0 0)
    → new ≡ take 14 head ++ (to_be_bytes w32 c ++ replicate 4 0)
    → new ≡ compressed_address (address_bytes j t kind l c 0)
unfolding address_bytes
head_of_chain j t kind l c head new is made =
    made ∙ ap (λ (h : List ℕ). take 14 h ++ (to_be_bytes w32 c ++ replicate 4 0)) is ∙ refl

-- the head of step q, from that of step 0
pub head_of_step : (j t kind l c q : ℕ) (head new : List ℕ)
    → head ≡ compressed_address (address_bytes j t kind l c 0)
    → new ≡ take 18 head ++ to_be_bytes w32 q
    → new ≡ compressed_address (address_bytes j t kind l c q)
unfolding address_bytes
head_of_step j t kind l c q head new is made =
    made ∙ ap (λ (h : List ℕ). take 18 h ++ to_be_bytes w32 q) is ∙ refl

module _ (n : ℕ) (s sk : List ℕ) (j t l c : ℕ) where
  abbrev pub value : ℕ → List ℕ
  value q = chain_value (short_suite n s) sk j t l c q

  -- the secret
  pub value_first : (now : List ℕ) → now ≡ (short_suite n s).suite.prf s (address_bytes j t 5 l c 0) sk → now ≡ value 0
  unfolding chain
  value_first now made = made

  -- one step more
  pub value_next : (q : ℕ) (old new : List ℕ) → old ≡ value q
      → new ≡ tweaked_hash_256 n s (address_bytes j t wots_hash_type l c q) old → new ≡ value (q + 1)
  unfolding chain
  value_next q old new on made =
      let step : q ≡ 0 + q = omega arith in
      made ∙ rw add-one (ap (λ e. tweaked_hash_256 n s (address_bytes j t wots_hash_type l c e) old) step
      ∙ ap (tweaked_hash_256 n s (address_bytes j t wots_hash_type l c (0 + q))) on)

  -- the place of a value that is left at its digit
  abbrev pub left_at : ℕ → List ℕ → ℕ → List ℕ
  left_at digit old q = if nat_lt digit q then value digit else old

  pub left_first : (digit : ℕ) (old : List ℕ) → old ≡ left_at digit old 0
  left_first digit old = rw (le-ltb digit 0 (omega arith)) refl

  pub left_here : (digit q : ℕ) (old new : List ℕ) → q ≡ digit → new ≡ value q → new ≡ left_at digit old (q + 1)
  left_here digit q old new same is = rw (lt-ltb digit (q + 1) (omega arith)) (is ∙ ap value same)

  pub left_other : (digit q : ℕ) (old now : List ℕ) → (q ≡ digit → ⊥) → now ≡ left_at digit old q → now ≡ left_at digit old (q + 1)
  left_other digit q old now other is =
      elim (cases_order digit q) [
        | inl same ↦ absurd (other (sym same))
        | inr (inl low) ↦ rw (lt-ltb digit (q + 1) (omega arith)) (is ∙ rw (lt-ltb digit q low) refl)
        | inr (inr high) ↦ rw (le-ltb digit (q + 1) (omega arith)) (is ∙ rw (le-ltb digit q (omega arith)) refl)
      ]

-- no part yet
pub none_put : (f : ℕ → List ℕ) (n : ℕ) (xs : List ℕ) → take (0 * n) xs ≡ joined f 0
unfolding joined
none_put f n xs = let none : 0 * n ≡ 0 = omega arith in rw none refl

-- part c put in its place
pub part_put : (f : ℕ → List ℕ) (n len c : ℕ) (cur old made : List ℕ) → length cur ≡ len * n → c < len
    → take (c * n) cur ≡ joined f c → drop (c * n) cur ≡ drop (c * n) old → length made ≡ n → made ≡ f c
    → (take ((c + 1) * n) (put_mid (c * n) ((c + 1) * n - c * n) cur made) ≡ joined f (c + 1))
    × (drop ((c + 1) * n) (put_mid (c * n) ((c + 1) * n - c * n) cur made) ≡ drop ((c + 1) * n) old)
part_put f n len c cur old made whole below front rest size is =
    let within : (c + 1) * n ≤ len * n = mul-le (c + 1) n len n (omega arith) (omega arith) in
    let next : (c + 1) * n ≡ c * n + n = omega arith in (
      take-put_mid (c * n) ((c + 1) * n - c * n) cur made ((c + 1) * n) (omega arith) (omega arith)
          ∙ rw (front, is) (sym (joined_more f c)),
      drop-put_mid (c * n) ((c + 1) * n - c * n) cur made ((c + 1) * n) (omega arith) (omega arith) (omega arith)
          ∙ drop_later cur old (c * n) ((c + 1) * n) (omega arith) rest,
    )

-- the ends of chain c of eight key pairs put in their places
pub ends_put : (end : ℕ → ℕ → List ℕ) (n len c : ℕ) (cur made : List ℕ) (lane : ℕ → List ℕ) → length cur ≡ 8 * len * n → c < len
    → take (8 * c * n) cur ≡ joined (λ i. end (i % 8) (i / 8)) (8 * c) → length made ≡ 8 * n
    → made ≡ joined lane 8 → ((k : ℕ) → k < 8 → lane k ≡ end k c)
    → take (8 * (c + 1) * n) (put_mid (8 * c * n) ((8 * c + 8) * n - 8 * c * n) cur made) ≡ joined (λ i. end (i % 8) (i / 8)) (8 * (c + 1))
ends_put end n len c cur made lane whole below front size is each =
    let place : 8 * (c + 1) ≡ 8 * c + 8 = omega arith in
    let within : (8 * c + 8) * n ≤ 8 * len * n = mul-le (8 * c + 8) n (8 * len) n (omega arith) (omega arith) in
    rw place (group_more (λ i. end (i % 8) (i / 8)) n (8 * c) 8 cur made (omega arith) front size
    (is ∙ joined_same lane (λ k. end ((8 * c + k) % 8) ((8 * c + k) / 8)) 8 (λ k low.
    let left : (8 * c + k) % 8 ≡ k = omega arith in
    let over : (8 * c + k) / 8 ≡ c = omega arith in
    each k low ∙ rw (left, over) refl)))

-- a suite with the same F and PRF has the same chains
module _ (K : Seeded) (s : List ℕ) (f : (a x : List ℕ) → K.suite.f K.seed a x ≡ tweaked_hash_256 K.n s a x)
    (prf : (a x : List ℕ) → K.suite.prf K.seed a x ≡ tweaked_hash_256 K.n s a x) where
  chain_same : (j t l c : ℕ) (x : List ℕ) (i q : ℕ) → chain (short_suite K.n s) j t l c x i q ≡ chain K j t l c x i q
  unfolding chain
  chain_same j t l c x i zero = refl
  chain_same j t l c x i (suc q) =
      ap (tweaked_hash_256 K.n s (address_bytes j t wots_hash_type l c (i + q))) (chain_same j t l c x i q) ∙ sym (f _ _)

  pub value_same : (sk : List ℕ) (j t l c q : ℕ) → chain_value (short_suite K.n s) sk j t l c q ≡ chain_value K sk j t l c q
  value_same sk j t l c q =
      ap (λ (x : List ℕ). chain (short_suite K.n s) j t l c x 0 q) (sym (prf (address_bytes j t wots_prf_type l c 0) sk))
      ∙ chain_same j t l c (chain_secret K sk j t l c) 0 q

  -- the values that a signer leaves
  pub left_same : (sk : List ℕ) (j t l len : ℕ) (old w out : List ℕ) → out ≡ joined (value_or (short_suite K.n s) sk j t l old w) len
      → out ≡ joined (value_or K sk j t l old w) len
  left_same sk j t l len old w out made =
      made ∙ joined_same _ _ len (λ c below.
      let digit = slice_index w c in
      ap (λ (v : List ℕ). if nat_lt digit 16 then v else part K.n old c) (value_same sk j t l c digit))

  -- the keys of eight key pairs, from the ends of their chains
  pub keys_same : (sk : List ℕ) (j t l count : ℕ) (ends out : List ℕ) → HasLength K.suite K.n → count ≡ chain_count K.n
      → ends ≡ joined (λ i. chain_value (short_suite K.n s) sk j t (l + i % 8) (i / 8) 15) (8 * count)
      → out ≡ joined (λ k. K.suite.t K.seed (address_bytes j t wots_pk_type (l + k) 0 0) (joined (λ c. part K.n ends (8 * c + k)) count)) 8
      → out ≡ joined (λ k. wots_pk K sk j t (l + k)) 8
  unfolding wots_pk
  keys_same sk j t l count ends out law all ends_are made =
      let end : ℕ → List ℕ = λ i. chain_value (short_suite K.n s) sk j t (l + i % 8) (i / 8) 15 in
      let size : (i : ℕ) → length (end i) ≡ K.n
      = λ i. ap length (value_same sk j t (l + i % 8) (i / 8) 15) ∙ length-chain_value K sk j t (l + i % 8) (i / 8) 15 law in
      made ∙ joined_same _ _ 8 (λ k low.
      ap (K.suite.t K.seed (address_bytes j t wots_pk_type (l + k) 0 0))
      (joined_same _ _ count (λ c below.
      let left : (8 * c + k) % 8 ≡ k = omega arith in
      let over : (8 * c + k) / 8 ≡ c = omega arith in
      ap (λ (e : List ℕ). part K.n e (8 * c + k)) ends_are
      ∙ part-joined end K.n (8 * count) (8 * c + k) size (omega arith)
      ∙ rw (left, over) (value_same sk j t (l + k) c 15))
      ∙ ap (joined (λ c. chain_value K sk j t (l + k) c 15)) all))

  -- the ends of a signature's chains
  pub ends_same : (j t l len : ℕ) (sig w out : List ℕ) → len ≡ chain_count K.n
      → out ≡ joined (λ c. checked_chain (short_suite K.n s) j t l sig w c 15) len → out ≡ checked_ends K j t l sig w
  unfolding checked_ends
  ends_same j t l len sig w out all made =
      made ∙ joined_same _ _ len (λ c below. chain_same j t l c (part K.n sig c) (slice_index w c) (15 - slice_index w c))
      ∙ ap (joined (λ c. checked_chain K j t l sig w c 15)) all
