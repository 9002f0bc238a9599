-- The entry at an index, behind those before it.
use Rattle.std.proofs.Common.{◌≡◌, ℕ, zero, suc, ◌+◌, ◌-◌, ◌<◌, ◌≤◌, List, [], ◌∷◌, length, None, Some, refl, ◌∙◌, ap, arith}
use Rattle.std.specs.Prelude.{slice_get}
use Rattle.slh_ring.proofs.Scans.{entries_more}
use Rattle.slh_ring.specs.Records.{after_entry, entries_in, entry_in}

pub got_next : (count k i : ℕ) (rest after : List ℕ) → k < count → k < i → after ≡ after_entry rest
    → slice_get (entries_in (count - k) rest) (i - k) ≡ slice_get (entries_in (count - (k + 1)) after) (i - (k + 1))
got_next count k i rest after more further is_after =
    let place : i - k ≡ suc (i - (k + 1)) = omega arith in
    ap (λ es. slice_get es (i - k)) (entries_more count k rest after more is_after)
    ∙ ap (slice_get (entry_in rest ∷ entries_in (count - (k + 1)) after)) place

pub got_first : (count k i : ℕ) (rest : List ℕ) → k < count → i ≤ k → slice_get (entries_in (count - k) rest) (i - k) ≡ Some (entry_in rest)
got_first count k i rest more here =
    let place : i - k ≡ 0 = omega arith in
    ap (λ es. slice_get es (i - k)) (entries_more count k rest (after_entry rest) more refl)
    ∙ ap (slice_get (entry_in rest ∷ entries_in (count - (k + 1)) (after_entry rest))) place

-- there are as many entries as were counted
pub length-entries_in : (count : ℕ) (bytes : List ℕ) → length (entries_in count bytes) ≡ count
unfolding entries_in
length-entries_in zero bytes = refl
length-entries_in (suc count) bytes = ap suc (length-entries_in count (after_entry bytes))

pub got_none : {X : Type 0} (xs : List X) (i : ℕ) → length xs ≤ i → slice_get xs i ≡ None
got_none [] i past = refl
got_none (x ∷ xs) zero past = absurd (omega (arith, past))
got_none (x ∷ xs) (suc i) past = got_none xs i (omega (arith, past))
