-- Chains that are taken in where their digits are reached.
use Rattle.std.proofs.Common.{◌≡◌, ℕ, ◌+◌, ◌*◌, ◌<◌, ◌≤◌, ◌==◌, ◌∙◌, inl, inr, List, [], ◌∷◌, length, ◌++◌, ◌≢◌, take, sum_by, slice_index, slice_set, add-zero, zero-add, if◌then◌else◌, arith, ap, refl, sym}
use Rattle.std.proofs.lemmas.Bool.{cases_eq, cases_order, le-ltb, lt-ltb, eq-eqb, ne_eqb}
use Rattle.std.proofs.lemmas.List.{get_or-set_same, get_or-set_other, length-set, take_all, take_more}
use Rattle.std.proofs.lemmas.List.Sums.{sum_by-append, sum_by-cons, sum_by_more_le}
use Rattle.slh_core.specs.Bytes.{joined}
use Rattle.slh_core.proofs.Joins.{joined_more, joined_same}
use Rattle.slh_core.specs.ActiveChains.{AreActive, IsUnderWay, count_at, count_below}
use Rattle.slh_core.specs.declared.params.TheConstants.{MAX_CHAINS}
use Rattle.slh_core.specs.declared.active_chains.ActiveChains.{ActiveChains}

-- no digit is below zero
pub count_below-zero : (ds : List ℕ) → count_below 0 ds ≡ 0
count_below-zero [] = refl
count_below-zero (d ∷ ds) = rw (sum_by-cons, le-ltb d 0 (omega arith)) (omega (arith, count_below-zero ds))

-- the digits below the next number
pub count_more : (q : ℕ) (ds : List ℕ) → count_below q ds + count_at q ds ≡ count_below (q + 1) ds
count_more q [] = refl
count_more q (d ∷ ds) =
    let rest = count_more q ds in
    elim (cases_order d q) [
      | inl same ↦ rw (sum_by-cons, sum_by-cons, sum_by-cons, le-ltb d q (omega arith), eq-eqb d q same, lt-ltb d (q + 1) (omega arith)) (omega arith)
      | inr (inl low) ↦ rw (sum_by-cons, sum_by-cons, sum_by-cons, lt-ltb d q low, ne_eqb d q (omega arith), lt-ltb d (q + 1) (omega arith)) (omega arith)
      | inr (inr high) ↦ rw (sum_by-cons, sum_by-cons, sum_by-cons, le-ltb d q (omega arith), ne_eqb d q (omega arith), le-ltb d (q + 1) (omega arith)) (omega arith)
    ]

pub count_below-le : (q : ℕ) (ds : List ℕ) → count_below q ds ≤ length ds
count_below-le q [] = omega arith
count_below-le q (d ∷ ds) =
    let rest = count_below-le q ds in
    elim (cases_order d q) [
      | inl same ↦ rw (sum_by-cons, le-ltb d q (omega arith)) (omega arith)
      | inr (inl low) ↦ rw (sum_by-cons, lt-ltb d q low) (omega arith)
      | inr (inr high) ↦ rw (sum_by-cons, le-ltb d q (omega arith)) (omega arith)
    ]

-- there is room for a chain whose digit is reached
pub room_for : (q c : ℕ) (ds : List ℕ) → c < length ds → slice_index ds c ≡ q → count_below q ds + count_at q (take c ds) < length ds
room_for q c ds below is =
    let one : ℕ → ℕ = λ d. if d == q then 1 else 0 in
    let more = sum_by_more_le one ds c 0 below in
    let here : one (slice_index ds c) ≡ 1 = rw (eq-eqb (slice_index ds c) q is) refl in
    omega (arith, more, here, count_more q ds, count_below-le (q + 1) ds)

count_at-more : (q c : ℕ) (ds : List ℕ) → c < length ds
    → count_at q (take (c + 1) ds) ≡ count_at q (take c ds) + (if slice_index ds c == q then 1 else 0)
count_at-more q c ds below =
    let one : ℕ → ℕ = λ d. if d == q then 1 else 0 in
    ap (sum_by one) (take_more ds c 0 below) ∙ sum_by-append one (take c ds) (slice_index ds c ∷ [])
    ∙ ap (λ k. sum_by one (take c ds) + k) (zero-add (one (slice_index ds c)))

-- a chain more may be under way
later : (ds : List ℕ) (q c k : ℕ) → IsUnderWay ds q c k → IsUnderWay ds q (c + 1) k
later ds q c k way = elim way [ inl low ↦ inl low | inr at ↦ inr (at.0, omega (arith, at.1)) ]

earlier : (ds : List ℕ) (q c k : ℕ) → k ≢ c → IsUnderWay ds q (c + 1) k → IsUnderWay ds q c k
earlier ds q c k other way = elim way [ inl low ↦ inl low | inr at ↦ inr (at.0, omega (arith, at.1, other)) ]

-- no chain is under way before the first step
pub active_none : (ds : List ℕ) (active : ActiveChains) → length active.numbers ≡ MAX_CHAINS → length active.places ≡ MAX_CHAINS → active.count ≡ 0 → AreActive ds 0 0 active
active_none ds active numbers_len places_len none =
    let nobody : (c : ℕ) → IsUnderWay ds 0 0 c → ⊥
    = λ c way. elim way [ inl low ↦ absurd (omega (arith, low)) | inr at ↦ absurd (omega (arith, at.1)) ] in
    record {
      numbers_len = numbers_len;
      places_len = places_len;
      counted = rw (none, count_below-zero ds) refl;
      number = λ k low. absurd (omega (arith, low, none));
      under_way = λ k low. absurd (omega (arith, low, none));
      place = λ c below way. absurd (nobody c way);
      placed = λ c below way. absurd (nobody c way);
    }

-- a chain whose digit isn't reached is passed
pub active_passed : (ds : List ℕ) (q c : ℕ) (active : ActiveChains) → AreActive ds q c active → c < length ds → slice_index ds c ≢ q → AreActive ds q (c + 1) active
active_passed ds q c active is below other =
    let gone : (k : ℕ) → IsUnderWay ds q (c + 1) k → IsUnderWay ds q c k
    = λ k way. elim way [
      | inl low ↦ inl low
      | inr at ↦ elim (cases_order k c) [
        | inl same ↦ absurd (other (ap (slice_index ds) (sym same) ∙ at.0))
        | inr (inl low) ↦ inr (at.0, low)
        | inr (inr high) ↦ absurd (omega (arith, at.1, high))
      ]
    ] in
    record {
      numbers_len = is.numbers_len;
      places_len = is.places_len;
      counted = rw (count_at-more q c ds below, ne_eqb (slice_index ds c) q other) (omega (arith, is.counted));
      number = is.number;
      under_way = λ k low. later ds q c _ (is.under_way k low);
      place = λ k low way. is.place k low (gone k way);
      placed = λ k low way. is.placed k low (gone k way);
    }

-- a chain whose digit is reached is taken in
pub active_entered : (ds : List ℕ) (q c : ℕ) (active next : ActiveChains) → AreActive ds q c active → c < length ds → slice_index ds c ≡ q
    → active.count < length active.numbers → c < length active.places
    → next.count ≡ active.count + 1
    → next.numbers ≡ slice_set active.numbers active.count c
    → next.places ≡ slice_set active.places c active.count
    → AreActive ds q (c + 1) next
active_entered ds q c active next is below reached room space counts numbers places =
    let here : slice_index next.numbers active.count ≡ c
    = ap (λ xs. slice_index xs active.count) numbers ∙ get_or-set_same active.numbers active.count c 0 room in
    let there : (k : ℕ) → k < active.count → slice_index next.numbers k ≡ slice_index active.numbers k
    = λ k low. ap (λ xs. slice_index xs k) numbers ∙ get_or-set_other active.numbers active.count k c 0 (omega (arith, low)) in
    let own : slice_index next.places c ≡ active.count
    = ap (λ xs. slice_index xs c) places ∙ get_or-set_same active.places c active.count 0 space in
    let others : (k : ℕ) → k ≢ c → slice_index next.places k ≡ slice_index active.places k
    = λ k other. ap (λ xs. slice_index xs k) places ∙ get_or-set_other active.places c k active.count 0 other in
    record {
      numbers_len = ap length numbers ∙ length-set active.numbers active.count c ∙ is.numbers_len;
      places_len = ap length places ∙ length-set active.places c active.count ∙ is.places_len;
      counted = rw (count_at-more q c ds below, eq-eqb (slice_index ds c) q reached) (omega (arith, is.counted, counts));
      number = λ k low. elim (cases_order k active.count) [
        | inl same ↦ rw (same, here) below
        | inr (inl less) ↦ rw (there k less) (is.number k less)
        | inr (inr more) ↦ absurd (omega (arith, low, more, counts))
      ];
      under_way = λ k low. elim (cases_order k active.count) [
        | inl same ↦ rw (same, here) (inr (reached, omega arith))
        | inr (inl less) ↦ rw (there k less) (later ds q c _ (is.under_way k less))
        | inr (inr more) ↦ absurd (omega (arith, low, more, counts))
      ];
      place = λ k low way. elim (cases_eq k c) [
        | inl same ↦ rw (same, own) (omega (arith, counts))
        | inr other ↦ rw (others k other) (omega (arith, is.place k low (earlier ds q c k other way), counts))
      ];
      placed = λ k low way. elim (cases_eq k c) [
        | inl same ↦ rw (same, own) here
        | inr other ↦
            let before = earlier ds q c k other way in
            rw (others k other, there _ (is.place k low before)) (is.placed k low before)
      ];
    }

-- when all chains with a digit are taken in, the active stands at the next
pub active_next : (ds : List ℕ) (q c : ℕ) (active : ActiveChains) → c ≡ length ds → AreActive ds q c active → AreActive ds (q + 1) 0 active
active_next ds q c active all is =
    let up : (k : ℕ) → IsUnderWay ds q c k → IsUnderWay ds (q + 1) 0 k
    = λ k way. elim way [ inl low ↦ inl (omega (arith, low)) | inr at ↦ inl (omega (arith, at.0)) ] in
    let down : (k : ℕ) → k < length ds → IsUnderWay ds (q + 1) 0 k → IsUnderWay ds q c k
    = λ k inside way. elim way [
      | inl low ↦ elim (cases_eq (slice_index ds k) q) [
        | inl same ↦ inr (same, omega (arith, inside, all))
        | inr other ↦ inl (omega (arith, low, other))
      ]
      | inr at ↦ absurd (omega (arith, at.1))
    ] in
    let whole : take c ds ≡ ds = take_all c ds (omega (arith, all)) in
    record {
      numbers_len = is.numbers_len;
      places_len = is.places_len;
      counted = is.counted ∙ ap (λ xs. count_below q ds + count_at q xs) whole ∙ count_more q ds ∙ sym (add-zero _);
      number = is.number;
      under_way = λ k low. up _ (is.under_way k low);
      place = λ k low way. is.place k low (down k low way);
      placed = λ k low way. is.placed k low (down k low way);
    }

-- the values, with one more
pub values_entered : (value : ℕ → List ℕ) (n c : ℕ) (active next : ActiveChains) (old new x : List ℕ)
    → next.count ≡ active.count + 1
    → active.count < length active.numbers
    → next.numbers ≡ slice_set active.numbers active.count c
    → take ((active.count + 1) * n) new ≡ take (active.count * n) old ++ x
    → x ≡ value c
    → take (active.count * n) old ≡ joined (λ k. value (slice_index active.numbers k)) active.count
    → take (next.count * n) new ≡ joined (λ k. value (slice_index next.numbers k)) next.count
values_entered value n c active next old new x counts room numbers grown is held =
    let here : slice_index next.numbers active.count ≡ c
    = ap (λ xs. slice_index xs active.count) numbers ∙ get_or-set_same active.numbers active.count c 0 room in
    let there : (k : ℕ) → k < active.count → value (slice_index active.numbers k) ≡ value (slice_index next.numbers k)
    = λ k low. ap value (sym (ap (λ xs. slice_index xs k) numbers ∙ get_or-set_other active.numbers active.count k c 0 (omega (arith, low)))) in
    rw (counts, joined_more, here, ← is) (grown ∙ ap (λ front. front ++ x) (held ∙ joined_same _ _ active.count there))

-- how many chains are under way before any with a digit is taken in
pub count-active : (ds : List ℕ) (q : ℕ) (active : ActiveChains) → AreActive ds q 0 active → active.count ≡ count_below q ds
count-active ds q active is = is.counted ∙ add-zero _
