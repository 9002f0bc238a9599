-- Chains that go on from their middle, and the signatures made of them.
use Rattle.std.proofs.Common.{◌≡◌, ◌==◌, ℕ, zero, suc, ◌+◌, ◌-◌, ◌*◌, ◌<◌, ◌≤◌, List, length, nat_lt, if◌then◌else◌, arith, ap, sym, refl, ◌∙◌, add-one, add-zero, add-suc, zero-add, inl, inr}
use Rattle.std.proofs.lemmas.Bool.{cases_lt, cases_order, eq-eqb, le-ltb, lt-ltb, ne_eqb}
use Rattle.std.proofs.lemmas.Nat.{mul-le}
use Rattle.std.specs.Prelude.{slice_index}
use Rattle.slh_core.specs.Address.{address_bytes, wots_hash_type, wots_pk_type, wots_prf_type}
use Rattle.slh_core.specs.Bytes.{joined, part}
use Rattle.slh_core.specs.Wots.{chain, chain_secret, chain_value, value_or, wots_pk, chain_values, wots_sig, checked_ends, wots_pk_from_sig}
use Rattle.slh_core.specs.Digits.{wots_digits}
use Rattle.slh_core.specs.Parameters.{chain_count}
use Rattle.slh_core.specs.Suite.{HasLength, Seeded}
use Rattle.slh_core.proofs.DigitSteps.{length-wots_digits, wots_digits_below}
use Rattle.slh_core.proofs.Joins.{joined_parts, joined_same, length-joined, length-part, part-joined, part-joined_below}

pub chain-add : (K : Seeded) (x : List ℕ) (j t l c i q r : ℕ) → chain K j t l c x i (q + r) ≡ chain K j t l c (chain K j t l c x i q) (i + q) r
unfolding chain
chain-add K x j t l c i q zero = rw add-zero refl
chain-add K x j t l c i q (suc r) =
    let on = chain-add K x j t l c i q r in
    let place : i + (q + r) ≡ (i + q) + r = omega arith in
    rw add-suc cc

-- a chain keeps its length
pub length-chain : (K : Seeded) (x : List ℕ) (j t l c i q : ℕ) → HasLength K.suite K.n → length x ≡ K.n → length (chain K j t l c x i q) ≡ K.n
unfolding chain
length-chain K x j t l c i zero law h = h
length-chain K x j t l c i (suc q) law h = law.f K.seed _ _

pub length-chain_value : (K : Seeded) (sk : List ℕ) (j t l c q : ℕ) → HasLength K.suite K.n → length (chain_value K sk j t l c q) ≡ K.n
length-chain_value K sk j t l c q law =
    length-chain K (chain_secret K sk j t l c) j t l c 0 q law (law.prf _ _ _)

pub length-wots_pk : (K : Seeded) (sk : List ℕ) (j t l : ℕ) → HasLength K.suite K.n → length (wots_pk K sk j t l) ≡ K.n
unfolding wots_pk
length-wots_pk K sk j t l law = law.t _ _ _

pub length-wots_sig : (K : Seeded) (sk : List ℕ) (j t l : ℕ) (m : List ℕ) → HasLength K.suite K.n → length (wots_sig K sk j t l m) ≡ chain_count K.n * K.n
unfolding chain_values
length-wots_sig K sk j t l m law =
    length-joined _ K.n (chain_count K.n) (λ c. length-chain_value K sk j t l c (slice_index (wots_digits K.n m) c) law)

-- chain values at any digits lead to the leaf of the key
ends-chain_values : (K : Seeded) (sk : List ℕ) (j t l : ℕ) (w : List ℕ) → HasLength K.suite K.n → ((c : ℕ) → slice_index w c < 16) → K.suite.t K.seed (address_bytes j t wots_pk_type l 0 0) (checked_ends K j t l (chain_values K sk j t l w) w) ≡ wots_pk K sk j t l
unfolding checked_ends chain_values wots_pk
ends-chain_values K sk j t l w law small =
    ap (K.suite.t K.seed (address_bytes j t wots_pk_type l 0 0)) (joined_same _ _ (chain_count K.n) (λ c below.
    let digit = slice_index w c in
    let short : digit < 16 = small c in
    let whole : digit + (15 - digit) ≡ 15 = omega arith in
    let sizes : (k : ℕ) → length (chain_value K sk j t l k (slice_index w k)) ≡ K.n
    = λ k. length-chain_value K sk j t l k (slice_index w k) law in
    rw (part-joined (λ k. chain_value K sk j t l k (slice_index w k)) K.n (chain_count K.n) c sizes below)
    (sym (rw zero-add at (chain-add K (chain_secret K sk j t l c) j t l c 0 digit (15 - digit)))
    ∙ ap (λ q. chain_value K sk j t l c q) whole)))

-- a signature's chains lead to the leaf of the key
pub wots_pk_from_sig-wots_sig : (K : Seeded) (sk : List ℕ) (j t l : ℕ) (m : List ℕ) → HasLength K.suite K.n → wots_pk_from_sig K j t l (wots_sig K sk j t l m) m ≡ wots_pk K sk j t l
unfolding wots_pk_from_sig
wots_pk_from_sig-wots_sig K sk j t l m law =
    ends-chain_values K sk j t l (wots_digits K.n m) law (λ c. wots_digits_below K.n m c)

-- a key's own chain, taken on from a value on it to its end
pub chain-chain_value : (K : Seeded) (sk : List ℕ) (j t l c q : ℕ) → q < 16 → chain K j t l c (chain_value K sk j t l c q) q (15 - q) ≡ chain_value K sk j t l c 15
chain-chain_value K sk j t l c q small =
    let whole : q + (15 - q) ≡ 15 = omega arith in
    sym (rw zero-add at (chain-add K (chain_secret K sk j t l c) j t l c 0 q (15 - q)))
    ∙ ap (λ e. chain_value K sk j t l c e) whole

module _ (K : Seeded) (sk : List ℕ) (j t l : ℕ) where
  -- a row of secrets is where the chains start
  pub chains_first : (len : ℕ) (numbers out : List ℕ) → ((c : ℕ) → c < len → slice_index numbers c ≡ c)
      → out ≡ joined (λ c. K.suite.prf K.seed (address_bytes j t wots_prf_type l (slice_index numbers c) 0) sk) len
      → out ≡ joined (λ c. chain_value K sk j t l c 0) len
  unfolding chain
  chains_first len numbers out numbered made =
      made ∙ joined_same _ _ len (λ c below.
      rw (numbered c below) refl)

  -- a row of hashes takes every chain one step on
  pub chains_next : (len q : ℕ) (numbers old new : List ℕ) → HasLength K.suite K.n
      → ((c : ℕ) → c < len → slice_index numbers c ≡ c)
      → old ≡ joined (λ c. chain_value K sk j t l c q) len
      → new ≡ joined (λ c. K.suite.f K.seed (address_bytes j t wots_hash_type l (slice_index numbers c) q) (part K.n old c)) len
      → new ≡ joined (λ c. chain_value K sk j t l c (q + 1)) len
  unfolding chain
  chains_next len q numbers old new law numbered held made =
      made ∙ joined_same _ _ len (λ c below.
      let sizes : (k : ℕ) → length (chain_value K sk j t l k q) ≡ K.n = λ k. length-chain_value K sk j t l k q law in
      let cut : part K.n old c ≡ chain_value K sk j t l c q
      = ap (λ (xs : List ℕ). part K.n xs c) held ∙ part-joined (λ k. chain_value K sk j t l k q) K.n len c sizes below in
      let step : q ≡ 0 + q = omega arith in
      rw (numbered c below, cut, add-one) (ap (λ e. K.suite.f K.seed (address_bytes j t wots_hash_type l c e) (chain_value K sk j t l c q)) step))

  -- the values at digits below q, where others are parts of old bytes
  abbrev pub reached : List ℕ → List ℕ → ℕ → ℕ → List ℕ
  reached old w q c = if nat_lt (slice_index w c) q then chain_value K sk j t l c (slice_index w c) else part K.n old c

  length-reached : (len q : ℕ) (old w : List ℕ) (c : ℕ) → HasLength K.suite K.n → length old ≡ len * K.n → c < len → length (reached old w q c) ≡ K.n
  length-reached len q old w c law size below =
      let fits : (c + 1) * K.n ≤ len * K.n = mul-le (c + 1) K.n len K.n (omega arith) (omega arith) in
      elim (cases_lt (slice_index w c) q) [
        | inl low ↦ rw (lt-ltb (slice_index w c) q low) (length-chain_value K sk j t l c (slice_index w c) law)
        | inr high ↦ rw (le-ltb (slice_index w c) q high) (length-part K.n c old (omega arith))
      ]

  -- no digit is reached at first
  pub reached_none : (len : ℕ) (old w : List ℕ) → length old ≡ len * K.n → old ≡ joined (reached old w 0) len
  reached_none len old w size =
      sym (joined_parts K.n len old size) ∙ joined_same _ _ len (λ c below.
      rw (le-ltb (slice_index w c) 0 (omega arith)) refl)

  -- the values of the chains that a step brings to their digits
  pub reached_next : (len q : ℕ) (old w out ends new : List ℕ) → HasLength K.suite K.n → length old ≡ len * K.n
      → out ≡ joined (reached old w q) len
      → ends ≡ joined (λ c. chain_value K sk j t l c q) len
      → new ≡ joined (λ c. if slice_index w c == q then part K.n ends c else part K.n out c) len
      → new ≡ joined (reached old w (q + 1)) len
  reached_next len q old w out ends new law size held on made =
      made ∙ joined_same _ _ len (λ c below.
      let digit = slice_index w c in
      let value = λ (k : ℕ). chain_value K sk j t l c k in
      let sizes : (k : ℕ) → length (chain_value K sk j t l k q) ≡ K.n = λ k. length-chain_value K sk j t l k q law in
      let cut : part K.n ends c ≡ value q = ap (λ (xs : List ℕ). part K.n xs c) on ∙ part-joined (λ k. chain_value K sk j t l k q) K.n len c sizes below in
      let kept : part K.n out c ≡ reached old w q c
      = ap (λ (xs : List ℕ). part K.n xs c) held
      ∙ part-joined_below (reached old w q) K.n len c (λ i less. length-reached len q old w i law size less) below in
      elim (cases_order digit q) [
        | inl same ↦ rw (eq-eqb digit q same, lt-ltb digit (q + 1) (omega arith)) (cut ∙ ap value (sym same))
        | inr (inl low) ↦ rw (ne_eqb digit q (omega arith), lt-ltb digit (q + 1) (omega arith)) (kept ∙ rw (lt-ltb digit q low) refl)
        | inr (inr high) ↦ rw (ne_eqb digit q (omega arith), le-ltb digit (q + 1) (omega arith)) (kept ∙ rw (le-ltb digit q (omega arith)) refl)
      ])

  -- where all are digits no old byte is left
  pub values_all : (len : ℕ) (old w : List ℕ) → ((c : ℕ) → c < len → slice_index w c < 16)
      → joined (value_or K sk j t l old w) len ≡ joined (λ c. chain_value K sk j t l c (slice_index w c)) len
  values_all len old w small = joined_same _ _ len (λ c below. rw (lt-ltb (slice_index w c) 16 (small c below)) refl)

  pub values_signed : (old m : List ℕ) → joined (value_or K sk j t l old (wots_digits K.n m)) (length (wots_digits K.n m)) ≡ wots_sig K sk j t l m
  unfolding chain_values
  values_signed old m =
      rw (length-wots_digits K.n m) (values_all (chain_count K.n) old (wots_digits K.n m) (λ c below. wots_digits_below K.n m c))

  -- and where none is all of them are
  pub values_none : (len : ℕ) (old w : List ℕ) → length old ≡ len * K.n → ((c : ℕ) → c < len → slice_index w c ≡ 16)
      → joined (value_or K sk j t l old w) len ≡ old
  values_none len old w size none =
      joined_same _ _ len (λ c below. rw (le-ltb (slice_index w c) 16 (omega (arith, none c below))) refl)
      ∙ joined_parts K.n len old size

  -- the ends of all chains make the public key
  pub key_of_ends : (len : ℕ) (ends : List ℕ) → len ≡ chain_count K.n → ends ≡ joined (λ c. chain_value K sk j t l c 15) len
      → K.suite.t K.seed (address_bytes j t wots_pk_type l 0 0) ends ≡ wots_pk K sk j t l
  unfolding wots_pk
  key_of_ends len ends count made = rw (made, count) refl
