-- Where the entries of a manifest stand in its bytes.
use Rattle.std.proofs.Common.{◌≡◌, ℕ, zero, suc, ◌+◌, ◌-◌, ◌≤◌, true, List, [], length, take, drop, get_or, slice_index, refl, sym, ◌∙◌, ap, subst, arith, length-take, length-drop, Some}
use Rattle.std.specs.List.{slice_get}
use Rattle.std.proofs.lemmas.List.{drop-drop, get_or-drop}
use Rattle.slh_manifest.specs.Checking.{count_of, entries_of, has_count, has_entries}
use Rattle.slh_manifest.specs.Reading.{after_front, are_entries, entries_in, front_entry, front_size, is_front}
use Rattle.slh_manifest.specs.declared.entry.Entry.{Entry}
use Rattle.slh_manifest.proofs.Fronts.{first_true, front_whole, second_true}
use Rattle.slh_dsa_c.specs.Manifests.{NameStands, c_entry, entries_size, entry_place}

-- those of a manifest
pub stand_all : (manifest : List ℕ) → has_entries manifest ≡ true → are_entries (count_of manifest) [] (drop 4 manifest) ≡ true
stand_all manifest has = second_true (has_count manifest) (are_entries (count_of manifest) [] (drop 4 manifest)) has

-- the one at the front is whole, and those behind it stand
pub whole : (left count : ℕ) (last bytes : List ℕ) → left ≡ suc count → are_entries left last bytes ≡ true → front_size bytes ≤ length bytes
whole left count last bytes some are =
    front_whole last bytes (first_true (is_front last bytes) (are_entries count (front_entry bytes).name (after_front bytes)) (subst (λ n. are_entries n last bytes ≡ true) some are))

pub behind : (left count : ℕ) (last bytes : List ℕ) → left ≡ suc count → are_entries left last bytes ≡ true → are_entries count (front_entry bytes).name (after_front bytes) ≡ true
behind left count last bytes some are =
    second_true (is_front last bytes) (are_entries count (front_entry bytes).name (after_front bytes)) (subst (λ n. are_entries n last bytes ≡ true) some are)

-- the byte at a place
pub byte_at : (manifest : List ℕ) (at : ℕ) → slice_index (drop at manifest) 0 ≡ slice_index manifest at
byte_at manifest at =
    let same : at + 0 ≡ at = omega arith in
    get_or-drop at manifest 0 0 ∙ ap (λ k. get_or manifest k 0) same

-- what stands behind a place, and behind the entry there
pub after_place : (manifest : List ℕ) (at next : ℕ) → next ≡ at + (slice_index manifest at + 41) → after_front (drop at manifest) ≡ drop next manifest
after_place manifest at next is =
    ap (λ k. drop (k + 41) (drop at manifest)) (byte_at manifest at) ∙ drop-drop (slice_index manifest at + 41) at manifest ∙ ap (λ k. drop k manifest) (sym is)

pub place_step : (manifest : List ℕ) (left count at next : ℕ) → left ≡ suc count → next ≡ at + (slice_index manifest at + 41)
    → at + entries_size left (drop at manifest) ≡ next + entries_size count (drop next manifest)
place_step manifest left count at next some is =
    let later : entries_size count (after_front (drop at manifest)) ≡ entries_size count (drop next manifest) = ap (entries_size count) (after_place manifest at next is) in
    ap (λ n. at + entries_size n (drop at manifest)) some ∙ omega (arith, byte_at manifest at, later, is)

-- an entry is the one at the front of what stands at its place
get_at : (count i : ℕ) (last bytes : List ℕ) (e : Entry) → are_entries count last bytes ≡ true → slice_get (entries_in count bytes) i ≡ Some e
    → (front_entry (drop (entries_size i bytes) bytes) ≡ e) × (front_size (drop (entries_size i bytes) bytes) ≤ length (drop (entries_size i bytes) bytes))
get_at zero i last bytes e are is = absurd (cc is)
get_at (suc count) zero last bytes e are is = (cc is, whole (suc count) count last bytes refl are)
get_at (suc count) (suc i) last bytes e are is =
    let later = get_at count i (front_entry bytes).name (after_front bytes) e (behind (suc count) count last bytes refl are) is in
    let same : drop (entries_size i (after_front bytes)) (after_front bytes) ≡ drop (entries_size (suc i) bytes) bytes = drop-drop (entries_size i (after_front bytes)) (front_size bytes) bytes in
    subst (λ (b : List ℕ). (front_entry b ≡ e) × (front_size b ≤ length b)) same later

-- its name stands behind one byte
name_at_front : (left name : List ℕ) → front_size left ≤ length left → name ≡ (front_entry left).name → name ≡ take (length name) (drop 1 left)
name_at_front left name fits is =
    let n = slice_index left 0 in
    let size : length name ≡ n = ap length is ∙ length-take (n + 1 - 1) (drop 1 left) ∙ omega (arith, length-drop 1 left, fits) in
    let same : n + 1 - 1 ≡ length name = omega (arith, size) in
    is ∙ ap (λ k. take k (drop 1 left)) same

pub name_stands : (manifest : List ℕ) (i : ℕ) (e : Entry) → has_entries manifest ≡ true → slice_get (entries_of manifest) i ≡ Some e
    → NameStands manifest (c_entry (entry_place manifest i + 1) e) e.name
name_stands manifest i e has is =
    let left = drop (entries_size i (drop 4 manifest)) (drop 4 manifest) in
    let at = get_at (count_of manifest) i [] (drop 4 manifest) e (stand_all manifest has) is in
    let place = entry_place manifest i in
    let left_is : left ≡ drop place manifest = drop-drop (entries_size i (drop 4 manifest)) 4 manifest in
    let name : e.name ≡ take (length e.name) (drop 1 left) = name_at_front left e.name at.1 (ap (λ (x : Entry). x.name) (sym at.0)) in
    let from : drop 1 left ≡ drop (place + 1) manifest = ap (drop 1) left_is ∙ drop-drop 1 place manifest in
    let size : place + 1 + length e.name - (place + 1) ≡ length e.name = omega arith in
    ap (λ k. take k (drop (place + 1) manifest)) size ∙ ap (take (length e.name)) (sym from) ∙ sym name
