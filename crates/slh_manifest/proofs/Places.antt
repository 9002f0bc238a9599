-- Entries that are left, where they stand.
use Rattle.std.proofs.Common.{◌≡◌, ℕ, zero, suc, ◌+◌, ◌-◌, ◌<◌, ◌≤◌, ◌^◌, true, List, ◌∷◌, length, take, drop, refl, sym, ◌∙◌, ap, subst, arith, length-take, length-drop, slice_range}
use Rattle.std.proofs.lemmas.List.{take_all}
use Rattle.slh_manifest.specs.Entries.{Stand}
use Rattle.slh_manifest.specs.Reading.{IsFrontView, after_front, are_entries, entries_in, front_entry, front_size, is_front}
use Rattle.slh_manifest.specs.declared.entry.Entry.{Entry}
use Rattle.slh_manifest.specs.declared.entry.EntryView.{EntryView}
use Rattle.slh_manifest.proofs.Fronts.{first_true, front_len, front_whole, second_true}

-- there are as many as are read
pub length-entries_in : (count : ℕ) (bytes : List ℕ) → length (entries_in count bytes) ≡ count
length-entries_in zero bytes = refl
length-entries_in (suc count) bytes = ap (λ n. suc n) (length-entries_in count (after_front bytes))

-- the entry of a view
abbrev pub entry_of_view : EntryView → Entry
entry_of_view view = record { name = view.name.now; len = view.len; digest = view.digest.now }

entry_is : (left : List ℕ) (view : EntryView) → IsFrontView left view → front_entry left ≡ entry_of_view view
entry_is left view is =
    ap (λ (n : List ℕ). record { name = n; len = (front_entry left).len; digest = (front_entry left).digest }) (sym is.name)
    ∙ ap (λ (l : ℕ). record { name = view.name.now; len = l; digest = (front_entry left).digest }) (sym is.len)
    ∙ ap (λ (d : List ℕ). record { name = view.name.now; len = view.len; digest = d }) (sym is.digest)

-- the first of those that are left, and the others
pub entries_next : (count : ℕ) (left : List ℕ) (view : EntryView) → 0 < count → IsFrontView left view
    → entries_in count left ≡ entry_of_view view ∷ entries_in (count - 1) view.rest.now
entries_next zero left view some is = absurd (omega (arith, some))
entries_next (suc count) left view some is =
    let less : suc count - 1 ≡ count = omega arith in
    rw less (ap (λ (e : Entry). e ∷ entries_in count (after_front left)) (entry_is left view is)
    ∙ ap (λ (rest : List ℕ). entry_of_view view ∷ entries_in count rest) (sym is.rest))

pub stand_front : (count : ℕ) (left : List ℕ) (stand : Stand count left) → 0 < count → is_front stand.last left ≡ true
stand_front zero left stand some = absurd (omega (arith, some))
stand_front (suc count) left stand some =
    first_true (is_front stand.last left) (are_entries count (front_entry left).name (after_front left)) stand.are

pub stand_whole : (count : ℕ) (left : List ℕ) → Stand count left → 0 < count → front_size left ≤ length left
stand_whole count left stand some = front_whole stand.last left (stand_front count left stand some)

pub stand_len : (count : ℕ) (left : List ℕ) (view : EntryView) → Stand count left → 0 < count → IsFrontView left view → view.len ≤ 2 ^ 32
stand_len count left view stand some is = subst (λ n. n ≤ 2 ^ 32) (sym is.len) (front_len stand.last left (stand_front count left stand some))

pub stand_next : (count : ℕ) (left : List ℕ) (view : EntryView) → Stand count left → 0 < count → IsFrontView left view → Stand (count - 1) view.rest.now
stand_next zero left view stand some is = absurd (omega (arith, some))
stand_next (suc count) left view stand some is =
    let less : suc count - 1 ≡ count = omega arith in
    rw less record {
      last = view.name.now;
      are = ap (λ (m : List ℕ). are_entries count m view.rest.now) is.name ∙ ap (are_entries count (front_entry left).name) is.rest
          ∙ second_true (is_front stand.last left) (are_entries count (front_entry left).name (after_front left)) stand.are;
    }

-- the parts of an entry at the places that the code counts
pub digest_part : (bytes digest : List ℕ) (n : ℕ) → digest ≡ take 32 (take (1 + n + 40 - (1 + n + 8)) (drop (1 + n + 8) bytes)) → digest ≡ slice_range bytes (n + 1 + 8) (n + 1 + 40)
digest_part bytes digest n is =
    let from : 1 + n + 8 ≡ n + 1 + 8 = omega arith in
    let to : 1 + n + 40 ≡ n + 1 + 40 = omega arith in
    is ∙ take_all 32 _ (omega (arith, length-take (1 + n + 40 - (1 + n + 8)) (drop (1 + n + 8) bytes)))
    ∙ ap (λ k. take (1 + n + 40 - k) (drop k bytes)) from ∙ ap (λ k. take (k - (n + 1 + 8)) (drop (n + 1 + 8) bytes)) to

pub rest_part : (bytes : List ℕ) (n : ℕ) → take (length bytes - (1 + n + 40)) (drop (1 + n + 40) bytes) ≡ drop (n + 41) bytes
rest_part bytes n =
    let from : 1 + n + 40 ≡ n + 41 = omega arith in
    take_all _ (drop (1 + n + 40) bytes) (omega (arith, length-drop (1 + n + 40) bytes)) ∙ ap (λ k. drop k bytes) from
